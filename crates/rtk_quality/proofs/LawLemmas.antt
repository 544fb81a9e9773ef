-- No bit 0 is hidden; and counts, sums and means below 2^64.
use Rattle.std.proofs.Common.{◌≡◌, ◌<◌, ◌≤◌, ◌+◌, ◌*◌, ◌^◌, ◌==◌, ℕ, Bool, true, false, not, cond, ◌&&◌, List, [], ◌∷◌, length, Option, None, Some, is_some, inl, inr, refl, sym, ap, subst, ◌∙◌, arith}
use Rattle.std.specs.Prelude.{count_by, sum_by}
use Rattle.std.specs.List.{fold, range_with_len}
use Rattle.std.proofs.lemmas.Bool.{cases_Bool, cases_eq, eq-eqb, or_parts}
use Rattle.std.proofs.lemmas.List.Sums.{sum_by-cons, count_by-le-length}
use Rattle.std.proofs.Math.Nat.{div-le_of_le-mul}
use Rattle.rtk_rinex.specs.declared.epoch_table.Observed.{Observed}
use Rattle.rtk_obs.specs.Reading.{reading_of}
use Rattle.rtk_tracking.specs.Epochs.{capped, shown_at}
use Rattle.rtk_tracking.specs.Passes.{Sighting, sightings_of, has_phase, begins_pass, is_known, is_kept}
use Rattle.rtk_tracking.proofs.PublicLaws.{each-bit}
use Rattle.rtk_quality.specs.Counts.{Noted, noted_of, plus, tally, strength_total, rounded_fraction, mean_hundredths}
use Rattle.rtk_quality.specs.SatellitePasses.{phases_in, sums_at, sums_plus, longer, passes_of, epochs_since_phase, epochs_in_passes}
use Rattle.rtk_quality.specs.Records.{rows_of}
use Rattle.rtk_quality.specs.Quality.{numbers_of, no_numbers, together, with_satellite, totals_of}
use Rattle.rtk_quality.specs.Laws.{CountsHideNothing, EachIsCounted, strength_or_0, sum_of_strengths, MeanIsOfAll, number_if_seen, count_in_passes, EachInPassIsCounted, PhasesAreInPasses, IsTotal, TotalsAreSums, RowsAreSum}
use Rattle.rtk_quality.specs.declared.code_numbers.CodeNumbers.{CodeNumbers}
use Rattle.rtk_quality.specs.declared.pass_sums.PassSums.{PassSums}
use Rattle.rtk_quality.specs.declared.satellite_counts.PassCounts.{PassCounts}
use Rattle.rtk_quality.proofs.CountLemmas.{bit-at, had-last, begun-passes, longer-passes, same-passes, has-pass}

-- one more
abbrev one : Bool → ℕ
one b = cond b 1 0

-- the three kinds of a bit 0
three-kinds : (interval : Option ℕ) (place : ℕ) (before : List Sighting) (s : Sighting)
    → one ((shown_at place s.observed).slip && is_kept interval place before s)
    + one ((shown_at place s.observed).slip && (is_known interval place before s && not (is_kept interval place before s)))
    + one ((shown_at place s.observed).slip && not (is_known interval place before s))
    ≡ one (shown_at place s.observed).slip
three-kinds interval place before s =
    let known : Bool = is_known interval place before s in
    let kept : Bool = is_kept interval place before s in
    let kinds : one ((shown_at place s.observed).slip && not known) + one ((shown_at place s.observed).slip && (known && not kept)) + one ((shown_at place s.observed).slip && kept)
    ≡ one (shown_at place s.observed).slip =
    subst (λ (bit : Bool). one (bit && not known) + one (bit && (known && not kept)) + one (bit && kept) ≡ one bit) (bit-at place s.observed) (each-bit interval place before s) in
    omega (arith, kinds)

sums : (a b c x y z w : ℕ) → x + y + z ≡ w → plus (plus (plus a x) (plus b y)) (plus c z) ≡ plus (plus (plus a b) c) w
sums a b c x y z w e = omega (arith, e)

pub nothing-hidden : CountsHideNothing
nothing-hidden interval place [] = refl
nothing-hidden interval place (s ∷ before) =
    let ns : List Noted = noted_of interval place before in
    let bit : Bool = (shown_at place s.observed).slip in
    let known : Bool = is_known interval place before s in
    let kept : Bool = is_kept interval place before s in
    sums (tally (λ n. n.observed.slip && n.kept) ns) (tally (λ n. n.observed.slip && (n.known && not n.kept)) ns) (tally (λ n. n.observed.slip && not n.known) ns)
    (one (bit && kept)) (one (bit && (known && not kept))) (one (bit && not known)) (one bit) (three-kinds interval place before s)
    ∙ ap (λ (k : ℕ). plus k (one bit)) (nothing-hidden interval place before)

-- ---- numbers of any size below 2^64

pub each-counted : EachIsCounted
each-counted test [] few = refl
each-counted test (n ∷ ns) few =
    let more = sum_by-cons (λ x. cond (test x) 1 0) n ns in
    let most = count_by-le-length test (n ∷ ns) in
    let was = each-counted test ns (omega (arith, few)) in
    omega (arith, few, more, most, was)

each-summed : (ns : List Noted) → sum_of_strengths ns < 2 ^ 64 → strength_total ns ≡ sum_of_strengths ns
each-summed [] few = refl
each-summed (n ∷ ns) few =
    let more = sum_by-cons strength_or_0 n ns in
    let was = each-summed ns (omega (arith, few, more)) in
    omega (arith, few, more, was)

-- a mean is not greater than the sum
mean-fits : (sum count : ℕ) → 0 < count → sum < 2 ^ 64 → capped (rounded_fraction sum (10 * count)) ≡ rounded_fraction sum (10 * count)
mean-fits sum count some fits =
    let most : rounded_fraction sum (10 * count) ≤ 18_446_744_073_709_551_615 = div-le_of_le-mul (2 * (10 * count)) (omega (arith, some, fits)) in
    omega (arith, most)

pub shown-mean : (sum count : ℕ) → sum < 2 ^ 64 → mean_hundredths sum count ≡ cond (count == 0) None (Some (rounded_fraction sum (10 * count)))
shown-mean sum count fits = elim (cases_eq count 0) [
  | inl none ↦
      ap (λ (b : Bool). cond b None (Some (capped (rounded_fraction sum (10 * count))))) (eq-eqb count 0 none)
      ∙ sym (ap (λ (b : Bool). cond b None (Some (rounded_fraction sum (10 * count)))) (eq-eqb count 0 none))
  | inr some ↦ ap (λ (mean : ℕ). cond (count == 0) None (Some mean)) (mean-fits sum count (omega (arith, some)) fits)
]

pub mean-of-all : MeanIsOfAll
mean-of-all ns few fits =
    let there : ℕ = count_by (λ n. is_some n.observed.strength_millidbhz) ns in
    ap (λ (count : ℕ). mean_hundredths (strength_total ns) count) (each-counted (λ n. is_some n.observed.strength_millidbhz) ns few)
    ∙ ap (λ (sum : ℕ). mean_hundredths sum there) (each-summed ns fits)
    ∙ shown-mean (sum_of_strengths ns) there fits

-- ---- the epochs of passes

-- the epochs since the last phase, none of which lies in a pass so far
abbrev since : List Sighting → ℕ
since [] = 0
since (s ∷ before) = cond (has_phase s.observed) 0 (since before + 1)

in-length : (interval : Option ℕ) (on : Bool) (before : List Sighting) → count_in_passes interval on before ≤ length before
in-length interval on [] = omega arith
in-length interval on (s ∷ before) = elim (cases_Bool (has_phase s.observed)) [
  | inl has ↦
      let rest = in-length interval (not (begins_pass interval before s)) before in
      let is : count_in_passes interval on (s ∷ before) ≡ count_in_passes interval (not (begins_pass interval before s)) before + 1 =
      ap (λ (b : Bool). cond b (count_in_passes interval (not (begins_pass interval before s)) before + 1) (count_in_passes interval on before + cond on 1 0)) has in
      omega (arith, rest, is)
  | inr none ↦
      let rest = in-length interval on before in
      let is : count_in_passes interval on (s ∷ before) ≡ count_in_passes interval on before + cond on 1 0 =
      ap (λ (b : Bool). cond b (count_in_passes interval (not (begins_pass interval before s)) before + 1) (count_in_passes interval on before + cond on 1 0)) none in
      let one = at-most-one on in
      omega (arith, rest, is, one)
]
  where
    at-most-one : (b : Bool) → cond b 1 0 ≤ 1
    at-most-one true = omega arith
    at-most-one false = omega arith

since-length : (before : List Sighting) → since before ≤ length before
since-length [] = omega arith
since-length (s ∷ before) = elim (cases_Bool (has_phase s.observed)) [
  | inl has ↦
      let is : since (s ∷ before) ≡ 0 = ap (λ (b : Bool). cond b 0 (since before + 1)) has in
      omega (arith, is)
  | inr none ↦
      let is : since (s ∷ before) ≡ since before + 1 = ap (λ (b : Bool). cond b 0 (since before + 1)) none in
      let rest = since-length before in
      omega (arith, is, rest)
]

since-is : (before : List Sighting) → length before < 2 ^ 64 → epochs_since_phase before ≡ since before
since-is [] few = refl
since-is (s ∷ before) few = elim (cases_Bool (has_phase s.observed)) [
  | inl has ↦
      ap (λ (b : Bool). cond b 0 (plus (epochs_since_phase before) 1)) has ∙ sym (ap (λ (b : Bool). cond b 0 (since before + 1)) has)
  | inr none ↦
      let rest = since-is before (omega (arith, few)) in
      let most = since-length before in
      ap (λ (b : Bool). cond b 0 (plus (epochs_since_phase before) 1)) none
      ∙ omega (arith, rest, most, few)
      ∙ sym (ap (λ (b : Bool). cond b 0 (since before + 1)) none)
]

-- the next phase goes on with the pass: the epochs since the last phase lie in it too
going-on : (interval : Option ℕ) (before : List Sighting) → count_in_passes interval true before ≡ count_in_passes interval false before + since before
going-on interval [] = refl
going-on interval (s ∷ before) = elim (cases_Bool (has_phase s.observed)) [
  | inl has ↦
      let n : ℕ = count_in_passes interval (not (begins_pass interval before s)) before + 1 in
      let on : count_in_passes interval true (s ∷ before) ≡ n = ap (λ (b : Bool). cond b n (count_in_passes interval true before + 1)) has in
      let off : count_in_passes interval false (s ∷ before) ≡ n = ap (λ (b : Bool). cond b n (count_in_passes interval false before + 0)) has in
      let late : since (s ∷ before) ≡ 0 = ap (λ (b : Bool). cond b 0 (since before + 1)) has in
      omega (arith, on, off, late)
  | inr none ↦
      let n : ℕ = count_in_passes interval (not (begins_pass interval before s)) before + 1 in
      let on : count_in_passes interval true (s ∷ before) ≡ count_in_passes interval true before + 1 = ap (λ (b : Bool). cond b n (count_in_passes interval true before + 1)) none in
      let off : count_in_passes interval false (s ∷ before) ≡ count_in_passes interval false before + 0 = ap (λ (b : Bool). cond b n (count_in_passes interval false before + 0)) none in
      let late : since (s ∷ before) ≡ since before + 1 = ap (λ (b : Bool). cond b 0 (since before + 1)) none in
      let rest = going-on interval before in
      omega (arith, on, off, late, rest)
]

-- an epoch with a phase, which begins a pass or goes on with one
phase-in-pass : (begins : Bool) (interval : Option ℕ) (within late : ℕ) (before : List Sighting) → length before + 1 < 2 ^ 64
    → within ≡ count_in_passes interval false before → late ≡ since before
    → cond begins (plus within 1) (plus within (plus late 1)) ≡ count_in_passes interval (not begins) before + 1
phase-in-pass true interval within late before few was since_phase =
    let most = in-length interval false before in
    omega (arith, few, was, most)
phase-in-pass false interval within late before few was since_phase =
    let on = going-on interval before in
    let most = in-length interval true before in
    omega (arith, few, was, since_phase, on, most)

pub each-in-pass : EachInPassIsCounted
each-in-pass interval [] few = refl
each-in-pass interval (s ∷ before) few =
    let begins : Bool = begins_pass interval before s in
    let within : ℕ = epochs_in_passes interval before in
    let late : ℕ = epochs_since_phase before in
    let with : ℕ = count_in_passes interval (not begins) before + 1 in
    let was = each-in-pass interval before (omega (arith, few)) in
    elim (cases_Bool (has_phase s.observed)) [
      | inl has ↦
          ap (λ (b : Bool). cond (not b) within (cond begins (plus within 1) (plus within (plus late 1)))) has
          ∙ phase-in-pass begins interval within late before (omega (arith, few)) was (since-is before (omega (arith, few)))
          ∙ sym (ap (λ (b : Bool). cond b with (count_in_passes interval false before + 0)) has)
      | inr none ↦
          let same : within ≡ count_in_passes interval false before + 0 = omega (arith, was) in
          ap (λ (b : Bool). cond (not b) within (cond begins (plus within 1) (plus within (plus late 1)))) none
          ∙ same ∙ sym (ap (λ (b : Bool). cond b with (count_in_passes interval false before + 0)) none)
    ]

-- ---- the phases of passes

no-phases : (os : List Observed) → has_phase os ≡ false → phases_in os ≡ 0
no-phases [] none = refl
no-phases (o ∷ os) none =
    let parts = or_parts (is_some o.phase_millicycles) (has_phase os) none in
    let rest = no-phases os parts.1 in
    let more = sum_by-cons (λ x. one (is_some x.phase_millicycles)) o os in
    let here : one (is_some o.phase_millicycles) ≡ 0 = ap one parts.0 in
    omega (arith, rest, more, here)

-- the phases of passes
abbrev of-passes : List PassCounts → ℕ
of-passes ps = sum_by (λ p. p.sums.phases) ps

-- all phases
abbrev of-epochs : List Sighting → ℕ
of-epochs before = sum_by (λ s. phases_in s.observed) before

-- the newest pass gets the phases of one epoch more
newest-longer : (s : Sighting) (sums : PassSums) (passes : List PassCounts) (p : PassCounts) (ps : List PassCounts) → passes ≡ p ∷ ps
    → of-passes passes + sums.phases < 2 ^ 64 → of-passes (longer s sums passes) ≡ of-passes passes + sums.phases
newest-longer s sums passes p ps are fits =
    let q : PassCounts = record { from = p.from; until = reading_of s.time; sums = sums_plus p.sums sums } in
    let was : of-passes passes ≡ p.sums.phases + of-passes ps = ap (λ (xs : List PassCounts). of-passes xs) are ∙ sum_by-cons (λ x. x.sums.phases) p ps in
    let is : of-passes (longer s sums passes) ≡ q.sums.phases + of-passes ps = ap (λ (xs : List PassCounts). of-passes (longer s sums xs)) are ∙ sum_by-cons (λ x. x.sums.phases) q ps in
    omega (arith, was, is, fits)

pub phases-in-passes : PhasesAreInPasses
phases-in-passes interval [] few = refl
phases-in-passes interval (s ∷ before) few =
    let all = sum_by-cons (λ x. phases_in x.observed) s before in
    let was = phases-in-passes interval before (omega (arith, few, all)) in
    elim (cases_Bool (has_phase s.observed)) [
      | inr none ↦
          let here = no-phases s.observed none in
          let same : of-passes (passes_of interval (s ∷ before)) ≡ of-passes (passes_of interval before) = ap (λ (ps : List PassCounts). of-passes ps) (same-passes interval before s none) in
          omega (arith, all, was, here, same)
      | inl has ↦
          elim (cases_Bool (begins_pass interval before s)) [
            | inl begins ↦
                let p : PassCounts = record { from = reading_of s.time; until = reading_of s.time; sums = sums_at interval before s } in
                let more : of-passes (passes_of interval (s ∷ before)) ≡ p.sums.phases + of-passes (passes_of interval before) =
                ap (λ (ps : List PassCounts). of-passes ps) (begun-passes interval before s has begins) ∙ sum_by-cons (λ x. x.sums.phases) p (passes_of interval before) in
                omega (arith, all, was, more)
            | inr goes_on ↦
                let last = had-last interval before s has goes_on in
                let newest = has-pass interval before last.0 last.1 in
                let more : of-passes (passes_of interval (s ∷ before)) ≡ of-passes (longer s (sums_at interval before s) (passes_of interval before)) =
                ap (λ (ps : List PassCounts). of-passes ps) (longer-passes interval before s has goes_on) in
                let longest = newest-longer s (sums_at interval before s) (passes_of interval before) newest.0 newest.1 newest.2 (omega (arith, few, all, was)) in
                omega (arith, all, was, more, longest)
          ]
    ]

-- ---- totals

-- a satellite that has the code is added
abbrev joined : CodeNumbers → CodeNumbers → CodeNumbers
joined total own = record { counts = together total.counts own.counts; possible = plus total.possible own.possible; satellites = plus total.satellites own.satellites }

-- a number is added
abbrev IsAdded : (CodeNumbers → ℕ) → Type 0
IsAdded number = (number no_numbers ≡ 0) × ((total own : CodeNumbers) → number (joined total own) ≡ plus (number total) (number own))

folded : (number : CodeNumbers → ℕ) → IsAdded number → (own : ℕ → CodeNumbers) (satellites : List ℕ) (total : CodeNumbers)
    → number total + sum_by (λ k. number_if_seen number (own k)) satellites < 2 ^ 64
    → number (fold (λ t k. with_satellite t (own k)) total satellites) ≡ number total + sum_by (λ k. number_if_seen number (own k)) satellites
folded number added own [] total fits = omega arith
folded number added own (k ∷ ks) total fits =
    let more = sum_by-cons (λ j. number_if_seen number (own j)) k ks in
    elim (cases_Bool (own k).counts.seen) [
      | inl seen ↦
          let here : number_if_seen number (own k) ≡ number (own k) = ap (λ (b : Bool). cond b (number (own k)) 0) seen in
          let step : number (with_satellite total (own k)) ≡ plus (number total) (number (own k)) =
          ap (λ (b : Bool). number (cond b (joined total (own k)) total)) seen ∙ added.1 total (own k) in
          let rest = folded number added own ks (with_satellite total (own k)) (omega (arith, fits, more, here, step)) in
          omega (arith, fits, more, here, step, rest)
      | inr not_seen ↦
          let here : number_if_seen number (own k) ≡ 0 = ap (λ (b : Bool). cond b (number (own k)) 0) not_seen in
          let step : number (with_satellite total (own k)) ≡ number total = ap (λ (b : Bool). number (cond b (joined total (own k)) total)) not_seen in
          let rest = folded number added own ks (with_satellite total (own k)) (omega (arith, fits, more, here, step)) in
          omega (arith, fits, more, here, step, rest)
    ]

total-is : (number : CodeNumbers → ℕ) → IsAdded number → IsTotal number
unfolding totals_of
total-is number added most interval place es fits =
    let none = added.0 in
    let all = folded number added (λ k. numbers_of interval (sightings_of k es) place) (range_with_len 1 most) no_numbers (omega (arith, none, fits)) in
    omega (arith, none, all)

pub totals-are-sums : TotalsAreSums
totals-are-sums = record {
  phases = total-is (λ n. n.counts.phases) (refl, λ total own. refl);
  possible = total-is (λ n. n.possible) (refl, λ total own. refl);
  satellites = total-is (λ n. n.satellites) (refl, λ total own. refl);
  ranges = total-is (λ n. n.counts.ranges) (refl, λ total own. refl);
  slips = total-is (λ n. n.counts.slips) (refl, λ total own. refl);
  returns = total-is (λ n. n.counts.returns) (refl, λ total own. refl);
  rises = total-is (λ n. n.counts.rises) (refl, λ total own. refl);
  halves = total-is (λ n. n.counts.halves) (refl, λ total own. refl);
  shifts = total-is (λ n. n.counts.shifts) (refl, λ total own. refl);
  strengths = total-is (λ n. n.counts.strengths) (refl, λ total own. refl);
  strength_sum = total-is (λ n. n.counts.strength_sum) (refl, λ total own. refl);
}

pub rows-are-sum : RowsAreSum
rows-are-sum [] few = refl
rows-are-sum (e ∷ es) few =
    let more = sum_by-cons rows_of e es in
    let was = rows-are-sum es (omega (arith, few, more)) in
    omega (arith, few, more, was)
