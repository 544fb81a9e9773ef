-- The counts of codes and passes, an epoch more.
use Rattle.std.proofs.Common.{◌≡◌, ◌≤◌, ◌+◌, ◌&&◌, not, length, arith, is_some, cond, ℕ, zero, suc, Bool, true, false, List, [], ◌∷◌, Option, None, Some, refl, sym, ap, ◌⊎◌, inl, inr, ◌∙◌}
use Rattle.std.specs.List.{list_any}
use Rattle.std.proofs.lemmas.Bool.{cases_Bool, both_ways, and_from}
use Rattle.std.proofs.lemmas.List.{get_or_past}
use Rattle.std.proofs.lemmas.List.FromFn.{fill_by_all, length-map-range_with_len, get_or-map-range_with_len}
use Rattle.rtk_obs.specs.declared.time.Civil.{Civil}
use Rattle.rtk_obs.specs.Reading.{reading_of}
use Rattle.rtk_rinex.specs.declared.epoch_table.Observed.{Observed}
use Rattle.rtk_tracking.specs.Passes.{Sighting, has_phase, has_bit_0, last_phase, is_away, begins_pass, is_known, is_kept, is_slip, is_return}
use Rattle.rtk_tracking.specs.Standing.{StandsForPass}
use Rattle.rtk_tracking.specs.Epochs.{shown_at}
use Rattle.rtk_rinex.specs.Record.{no_observation}
use Rattle.rtk_quality.specs.Counts.{plus, Noted, is_observed, noted_of, tally, strength_total, least_strength, greatest_strength, counts_of, code_counts_of}
use Rattle.rtk_quality.specs.SatellitePasses.{sums_at, sums_plus, sums_in, longer, passes_of, epochs_since_phase, epochs_in_passes}
use Rattle.rtk_quality.specs.Runs.{open_run}
use Rattle.rtk_quality.specs.Bursts.{last_hour}
use Rattle.rtk_quality.specs.Standing.{newest_pass, with_epoch, absent_at, StandsForSatellite}
use Rattle.rtk_quality.specs.declared.pass_sums.PassSums.{PassSums}
use Rattle.rtk_quality.specs.declared.satellite_counts.PassCounts.{PassCounts}
use Rattle.rtk_quality.specs.declared.satellite_counts.SatelliteCounts.{SatelliteCounts}
use Rattle.rtk_quality.specs.declared.code_counts.CodeCounts.{CodeCounts}

-- a code, an epoch more
pub code-more : (interval : Option ℕ) (place : ℕ) (before : List Sighting) (s : Sighting) (os : List Observed) (o : Observed) (known kept : Bool) (old new : CodeCounts)
    → os ≡ s.observed → o ≡ shown_at place os → known ≡ is_known interval place before s → kept ≡ is_kept interval place before s
    → old ≡ counts_of (noted_of interval place before)
    → ((ns : List Noted) → old ≡ counts_of ns → new ≡ counts_of (record { observed = o; known = known; kept = kept } ∷ ns))
    → new ≡ counts_of (noted_of interval place (s ∷ before))
code-more interval place before s os o known kept old new same is marked_known marked was took =
    let rest : List Noted = noted_of interval place before in
    took rest was
    ∙ ap (λ (x : Observed). counts_of (record { observed = x; known = known; kept = kept } ∷ rest)) (is ∙ ap (λ (xs : List Observed). shown_at place xs) same)
    ∙ ap (λ (b : Bool). counts_of (record { observed = shown_at place s.observed; known = b; kept = kept } ∷ rest)) marked_known
    ∙ ap (λ (b : Bool). counts_of (record { observed = shown_at place s.observed; known = is_known interval place before s; kept = b } ∷ rest)) marked

-- bit 0 of a digit
pub bit-at : (place : ℕ) (os : List Observed) → has_bit_0 place os ≡ (shown_at place os).slip
bit-at place [] = refl
bit-at zero (o ∷ os) = refl
bit-at (suc place) (o ∷ os) = bit-at place os

pub slip-is : (interval : Option ℕ) (place : ℕ) (before : List Sighting) (s : Sighting) (os : List Observed) (o : Observed) (kept : Bool)
    → os ≡ s.observed → o ≡ shown_at place os → kept ≡ is_kept interval place before s → (o.slip && kept) ≡ is_slip interval place before s
slip-is interval place before s os o kept same is marked =
    ap (λ (x : Observed). x.slip && kept) (is ∙ ap (λ (xs : List Observed). shown_at place xs) same)
    ∙ ap (λ (b : Bool). b && kept) (sym (bit-at place s.observed))
    ∙ ap (λ (b : Bool). has_bit_0 place s.observed && b) marked

pub return-is : (interval : Option ℕ) (place : ℕ) (before : List Sighting) (s : Sighting) (os : List Observed) (o : Observed) (known kept : Bool)
    → os ≡ s.observed → o ≡ shown_at place os → known ≡ is_known interval place before s → kept ≡ is_kept interval place before s
    → (o.slip && (known && not kept)) ≡ is_return interval place before s
return-is interval place before s os o known kept same is marked_known marked =
    ap (λ (x : Observed). x.slip && (known && not kept)) (is ∙ ap (λ (xs : List Observed). shown_at place xs) same)
    ∙ ap (λ (b : Bool). b && (known && not kept)) (sym (bit-at place s.observed))
    ∙ ap (λ (b : Bool). has_bit_0 place s.observed && (b && not kept)) marked_known
    ∙ ap (λ (b : Bool). has_bit_0 place s.observed && (is_known interval place before s && not b)) marked

-- ---- what is not observed

abbrev counts_with : Bool → ℕ → ℕ → ℕ → ℕ → ℕ → ℕ → ℕ → ℕ → ℕ → Option ℕ → Option ℕ → CodeCounts
counts_with seen a b c r d e h f g least greatest =
    record { seen = seen; phases = a; ranges = b; slips = c; returns = r; rises = d; halves = e; shifts = h; strengths = f; strength_sum = g; least = least; greatest = greatest }

same-counts : (seen : Bool) (a b c r d e h f g a2 b2 c2 r2 d2 e2 h2 f2 g2 : ℕ) (least greatest : Option ℕ) → a ≡ a2 → b ≡ b2 → c ≡ c2 → r ≡ r2 → d ≡ d2 → e ≡ e2 → h ≡ h2 → f ≡ f2 → g ≡ g2
    → counts_with seen a b c r d e h f g least greatest ≡ counts_with seen a2 b2 c2 r2 d2 e2 h2 f2 g2 least greatest
same-counts seen a b c r d e h f g a2 b2 c2 r2 d2 e2 h2 f2 g2 least greatest ea eb ec er ed ee eh ef eg = cc

plus-none : (test : Noted → Bool) (ns : List Noted) → plus (tally test ns) 0 ≡ tally test ns
plus-none test [] = refl
plus-none test (n ∷ ns) = omega arith

total-none : (ns : List Noted) → plus (strength_total ns) 0 ≡ strength_total ns
total-none [] = refl
total-none (n ∷ ns) = omega arith

-- it changes no count
pub nothing-more : (ns : List Noted) (known kept : Bool) → counts_of (record { observed = no_observation; known = known; kept = kept } ∷ ns) ≡ counts_of ns
nothing-more ns known kept =
    same-counts (list_any (λ n. is_observed n.observed) ns) _ _ _ _ _ _ _ _ _ _ _ _ _ _ _ _ _ _ (least_strength ns) (greatest_strength ns)
    (plus-none (λ n. is_some n.observed.phase_millicycles) ns)
    (plus-none (λ n. is_some n.observed.range_mm && not (is_some n.observed.phase_millicycles)) ns)
    (plus-none (λ n. n.observed.slip && n.kept) ns)
    (plus-none (λ n. n.observed.slip && (n.known && not n.kept)) ns)
    (plus-none (λ n. n.observed.slip && not n.known) ns)
    (plus-none (λ n. n.observed.half) ns)
    (plus-none (λ n. is_some n.observed.doppler_millihertz) ns)
    (plus-none (λ n. is_some n.observed.strength_millidbhz) ns)
    (total-none ns)

-- a code that an epoch does not show, an epoch more
pub code-rest : (interval : Option ℕ) (place : ℕ) (before : List Sighting) (s : Sighting) → length s.observed ≤ place
    → counts_of (noted_of interval place (s ∷ before)) ≡ counts_of (noted_of interval place before)
code-rest interval place before s past =
    ap (λ (o : Observed). counts_of (record { observed = o; known = is_known interval place before s; kept = is_kept interval place before s } ∷ noted_of interval place before)) (get_or_past s.observed place no_observation past)
    ∙ nothing-more (noted_of interval place before) (is_known interval place before s) (is_kept interval place before s)

pub no-slip : (interval : Option ℕ) (place : ℕ) (before : List Sighting) (s : Sighting) → length s.observed ≤ place → is_slip interval place before s ≡ false
no-slip interval place before s past =
    ap (λ (b : Bool). b && is_kept interval place before s) (bit-at place s.observed ∙ ap (λ (o : Observed). o.slip) (get_or_past s.observed place no_observation past))

pub no-return : (interval : Option ℕ) (place : ℕ) (before : List Sighting) (s : Sighting) → length s.observed ≤ place → is_return interval place before s ≡ false
no-return interval place before s past =
    ap (λ (b : Bool). b && (is_known interval place before s && not (is_kept interval place before s))) (bit-at place s.observed ∙ ap (λ (o : Observed). o.slip) (get_or_past s.observed place no_observation past))

-- the codes of a satellite without a row
pub same-codes : (interval : Option ℕ) (t : ℕ) (before : List Sighting) → code_counts_of interval (absent_at t ∷ before) ≡ code_counts_of interval before
unfolding code_counts_of
same-codes interval t before =
    fill_by_all (λ (place : ℕ). counts_of (noted_of interval place before)) (code_counts_of interval (absent_at t ∷ before)) 16 (counts_of [])
    (length-map-range_with_len (λ (place : ℕ). counts_of (noted_of interval place (absent_at t ∷ before))) 0 16) (λ k lt.
    let here : 0 + k ≡ k = omega arith in
    get_or-map-range_with_len (λ (place : ℕ). counts_of (noted_of interval place (absent_at t ∷ before))) 0 16 k k (counts_of []) lt here
    ∙ code-rest interval k before (absent_at t) (omega arith))

-- a satellite before the row of an epoch
pub record IsBeforeRow (s : SatelliteCounts) (interval : Option ℕ) (before : List Sighting) : Type 0 where
  pub pass : StandsForPass s.pass interval before
  pub codes : s.codes ≡ code_counts_of interval before
  pub in_passes : s.in_passes ≡ epochs_in_passes interval before
  pub since_phase : s.since_phase ≡ plus (epochs_since_phase before) 1
  pub last : s.last ≡ newest_pass (passes_of interval before)
  pub sums : s.sums ≡ sums_in interval before
  pub run : s.run ≡ open_run interval before
  pub hour : s.hour ≡ last_hour interval before

pub before-row : (s : SatelliteCounts) (interval : Option ℕ) (t : ℕ) (before : List Sighting) → StandsForSatellite s interval (absent_at t ∷ before) → IsBeforeRow s interval before
before-row s interval t before stands = record {
  pass = record { last = stands.pass.last; had = stands.pass.had; kept = stands.pass.kept };
  codes = stands.codes ∙ same-codes interval t before;
  in_passes = stands.in_passes;
  since_phase = stands.since_phase;
  last = stands.last;
  sums = stands.sums;
  run = stands.run;
  hour = stands.hour;
}

-- ---- passes

away-none : (interval : Option ℕ) (t : ℕ) (last : Option ℕ) → last ≡ None → is_away interval last t ≡ true
away-none interval t last none = ap (λ (o : Option ℕ). is_away interval o t) none

some-or-none : (last : Option ℕ) → (last ≡ None) ⊎ ((t : ℕ) × (last ≡ Some t))
some-or-none None = inl refl
some-or-none (Some t) = inr (t, refl)

-- a satellite that is not away has had a phase
pub had-last : (interval : Option ℕ) (before : List Sighting) (s : Sighting) → has_phase s.observed ≡ true → begins_pass interval before s ≡ false → (t : ℕ) × (last_phase before ≡ Some t)
had-last interval before s has goes_on =
    elim (some-or-none (last_phase before)) [
      | inl none ↦ absurd (both_ways (begins_pass interval before s) goes_on (and_from (has_phase s.observed) (is_away interval (last_phase before) s.time) has (away-none interval s.time (last_phase before) none)))
      | inr some ↦ some
    ]

pub begun-passes : (interval : Option ℕ) (before : List Sighting) (s : Sighting) → has_phase s.observed ≡ true → begins_pass interval before s ≡ true
    → passes_of interval (s ∷ before) ≡ record { from = reading_of s.time; until = reading_of s.time; sums = sums_at interval before s } ∷ passes_of interval before
begun-passes interval before s has begins =
    let begun : List PassCounts = record { from = reading_of s.time; until = reading_of s.time; sums = sums_at interval before s } ∷ passes_of interval before in
    let on : List PassCounts = longer s (sums_at interval before s) (passes_of interval before) in
    ap (λ (b : Bool). cond (not b) (passes_of interval before) (cond (begins_pass interval before s) begun on)) has ∙ ap (λ (b : Bool). cond b begun on) begins

pub longer-passes : (interval : Option ℕ) (before : List Sighting) (s : Sighting) → has_phase s.observed ≡ true → begins_pass interval before s ≡ false
    → passes_of interval (s ∷ before) ≡ longer s (sums_at interval before s) (passes_of interval before)
longer-passes interval before s has goes_on =
    let begun : List PassCounts = record { from = reading_of s.time; until = reading_of s.time; sums = sums_at interval before s } ∷ passes_of interval before in
    let on : List PassCounts = longer s (sums_at interval before s) (passes_of interval before) in
    ap (λ (b : Bool). cond (not b) (passes_of interval before) (cond (begins_pass interval before s) begun on)) has ∙ ap (λ (b : Bool). cond b begun on) goes_on

pub same-passes : (interval : Option ℕ) (before : List Sighting) (s : Sighting) → has_phase s.observed ≡ false → passes_of interval (s ∷ before) ≡ passes_of interval before
same-passes interval before s none =
    let begun : List PassCounts = record { from = reading_of s.time; until = reading_of s.time; sums = sums_at interval before s } ∷ passes_of interval before in
    let on : List PassCounts = longer s (sums_at interval before s) (passes_of interval before) in
    ap (λ (b : Bool). cond (not b) (passes_of interval before) (cond (begins_pass interval before s) begun on)) none

-- a satellite with a phase has a pass
pub has-pass : (interval : Option ℕ) (before : List Sighting) (t : ℕ) → last_phase before ≡ Some t → (p : PassCounts) × (ps : List PassCounts) × (passes_of interval before ≡ p ∷ ps)
has-pass interval [] t had = absurd (cc)
has-pass interval (s ∷ before) t had =
    elim (cases_Bool (has_phase s.observed)) [
      | inr none ↦
          let rest = has-pass interval before t (sym (ap (λ (b : Bool). cond b (Some s.time) (last_phase before)) none) ∙ had) in
          (rest.0, rest.1, same-passes interval before s none ∙ rest.2)
      | inl has ↦
          elim (cases_Bool (begins_pass interval before s)) [
            | inl begins ↦ (record { from = reading_of s.time; until = reading_of s.time; sums = sums_at interval before s }, passes_of interval before, begun-passes interval before s has begins)
            | inr goes_on ↦
                let last = had-last interval before s has goes_on in
                let rest = has-pass interval before last.0 last.1 in (
                  record { from = rest.0.from; until = reading_of s.time; sums = sums_plus rest.0.sums (sums_at interval before s) },
                  rest.1,
                  longer-passes interval before s has goes_on ∙ ap (λ (ps : List PassCounts). longer s (sums_at interval before s) ps) rest.2,
                )
          ]
    ]

begun-is : (last : Option PassCounts) (reading : Civil) (sums : PassSums) → with_epoch last true reading sums ≡ record { from = reading; until = reading; sums = sums }
begun-is None reading sums = refl
begun-is (Some p) reading sums = refl

-- the last pass, an epoch more
pub last-more : (interval : Option ℕ) (before : List Sighting) (s : Sighting) (last : Option PassCounts) → last ≡ newest_pass (passes_of interval before) → has_phase s.observed ≡ true
    → Some (with_epoch last (begins_pass interval before s) (reading_of s.time) (sums_at interval before s)) ≡ newest_pass (passes_of interval (s ∷ before))
last-more interval before s last was has =
    let sums : PassSums = sums_at interval before s in
    elim (cases_Bool (begins_pass interval before s)) [
      | inl begins ↦
          ap (λ (b : Bool). Some (with_epoch last b (reading_of s.time) sums)) begins ∙ ap Some (begun-is last (reading_of s.time) sums)
          ∙ sym (ap newest_pass (begun-passes interval before s has begins))
      | inr goes_on ↦
          let seen = had-last interval before s has goes_on in
          let had = has-pass interval before seen.0 seen.1 in
          ap (λ (b : Bool). Some (with_epoch last b (reading_of s.time) sums)) goes_on
          ∙ ap (λ (o : Option PassCounts). Some (with_epoch o false (reading_of s.time) sums)) (was ∙ ap newest_pass had.2)
          ∙ sym (ap newest_pass (longer-passes interval before s has goes_on ∙ ap (λ (ps : List PassCounts). longer s sums ps) had.2))
    ]

-- the epochs in passes, an epoch more
pub within-more : (interval : Option ℕ) (before : List Sighting) (s : Sighting) → has_phase s.observed ≡ true
    → epochs_in_passes interval (s ∷ before) ≡ plus (epochs_in_passes interval before) (cond (begins_pass interval before s) 1 (plus (epochs_since_phase before) 1))
within-more interval before s has =
    let one : ℕ = plus (epochs_in_passes interval before) 1 in
    let more : ℕ = plus (epochs_in_passes interval before) (plus (epochs_since_phase before) 1) in
    ap (λ (b : Bool). cond (not b) (epochs_in_passes interval before) (cond (begins_pass interval before s) one more)) has
    ∙ cond-inside (begins_pass interval before s) (epochs_in_passes interval before) 1 (plus (epochs_since_phase before) 1)
  where
    cond-inside : (b : Bool) (a x y : ℕ) → cond b (plus a x) (plus a y) ≡ plus a (cond b x y)
    cond-inside true a x y = refl
    cond-inside false a x y = refl
