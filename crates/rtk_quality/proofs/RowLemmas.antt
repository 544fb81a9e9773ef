-- An epoch row by row: what has come of each satellite.
use Rattle.std.proofs.Common.{◌≡◌, ◌≢◌, ◌<◌, ◌≤◌, ◌+◌, ◌++◌, ◌==◌, cond, ℕ, suc, Bool, List, [], ◌∷◌, length, take, drop, set, get_or, reverse, Option, refl, sym, ap, subst, inl, inr, ◌∙◌, get_or-set_same, get_or-set_other, length-set, arith, ltb, count_by, append_assoc}
use Rattle.std.proofs.lemmas.Bool.{cases_Bool}
use Rattle.std.proofs.lemmas.Bool.{cases_eq, eq-eqb, ne_eqb}
use Rattle.std.proofs.lemmas.List.{append-nil, get_or-take, take_more, length-take-le, at_drop_more}
use Rattle.std.proofs.lemmas.List.Sums.{sum_by_push}
use Rattle.std.proofs.lemmas.Grind.{flat_map-append}
use Rattle.rtk_rinex.specs.Record.{EpochTableView}
use Rattle.rtk_rinex.specs.declared.epoch_table.Observed.{Observed}
use Rattle.rtk_rinex.specs.declared.epoch_table.SatelliteRow.{SatelliteRow}
use Rattle.rtk_tracking.specs.Epochs.{capped, newest_moment, observed_in}
use Rattle.rtk_tracking.specs.Passes.{Sighting, sightings_of, last_record, has_phase}
use Rattle.rtk_quality.specs.Counts.{plus}
use Rattle.rtk_quality.specs.Hours.{slips_of, returns_at}
use Rattle.rtk_quality.specs.Largest.{list_of as list_if_any, AreLargest}
use Rattle.rtk_quality.specs.Moments.{together_in, together_plus, is_slipping, is_tracked}
use Rattle.rtk_quality.specs.SatellitePasses.{passes_of, slips_at}
use Rattle.rtk_quality.specs.Steps.Noted.{no_locks, locks_plus, locks_at, locks_onto}
use Rattle.rtk_quality.specs.Standing.{RowsRise, absent_at, older_passes, StandsForSatellite, StandsForEnded, StandForSatellites, ended_of, with_ended, HasEnded, StandForEnded}
use Rattle.rtk_quality.specs.declared.hours.Locks.{Locks}
use Rattle.rtk_quality.specs.declared.largest.Largest.{Largest}
use Rattle.rtk_quality.specs.declared.moments.Together.{Together}
use Rattle.rtk_quality.specs.declared.satellite_counts.PassCounts.{PassCounts}
use Rattle.rtk_quality.specs.declared.satellite_counts.SatelliteCounts.{SatelliteCounts}
use Rattle.rtk_quality.specs.declared.file_counts.EndedPass.{EndedPass}
use Rattle.std.specs.Prelude.{flat_map}
use Rattle.std.specs.List.{range_with_len}
use Rattle.rtk_quality.proofs.ListLemmas.{range-more}
use Rattle.rtk_quality.proofs.FileLemmas.{list_of, older-more, with-own, with-other}

-- an epoch with its first rows
abbrev pub first_rows : EpochTableView → ℕ → EpochTableView
first_rows e i = record { time = e.time; rows = take i e.rows }

pub all-rows : (e : EpochTableView) (i : ℕ) → take i e.rows ≡ e.rows → first_rows e i ≡ e
all-rows e i all = ap (λ (rows : List SatelliteRow). with_rows e.time rows) all
  where
    with_rows : ℕ → List SatelliteRow → EpochTableView
    with_rows t rows = record { time = t; rows = rows }

-- ---- what rows show of a satellite

-- no row is of this satellite
abbrev AreOfOthers : ℕ → List SatelliteRow → SatelliteRow → Type 0
AreOfOthers k rows d = (j : ℕ) → j < length rows → (get_or rows j d).satellite ≢ k

others-tail : (k : ℕ) (x : SatelliteRow) (rows : List SatelliteRow) (d : SatelliteRow) → AreOfOthers k (x ∷ rows) d → AreOfOthers k rows d
others-tail k x rows d others = λ j lt. others (suc j) (omega (arith, lt))

none-of : (k : ℕ) (rows : List SatelliteRow) (d : SatelliteRow) → AreOfOthers k rows d → observed_in k rows ≡ []
none-of k [] d others = refl
none-of k (x ∷ rows) d others =
    ap (λ (b : Bool). cond b x.observed.items (observed_in k rows)) (ne_eqb x.satellite k (others 0 (omega arith))) ∙ none-of k rows d (others-tail k x rows d others)

own-row : (k : ℕ) (rows : List SatelliteRow) (r d : SatelliteRow) → AreOfOthers k rows d → r.satellite ≡ k → observed_in k (rows ++ r ∷ []) ≡ r.observed.items
own-row k [] r d others same = ap (λ (b : Bool). cond b r.observed.items []) (eq-eqb r.satellite k same)
own-row k (x ∷ rows) r d others same =
    ap (λ (b : Bool). cond b x.observed.items (observed_in k (rows ++ r ∷ []))) (ne_eqb x.satellite k (others 0 (omega arith)))
    ∙ own-row k rows r d (others-tail k x rows d others) same

other-row : (k : ℕ) (rows : List SatelliteRow) (r : SatelliteRow) → r.satellite ≢ k → observed_in k (rows ++ r ∷ []) ≡ observed_in k rows
other-row k [] r other = ap (λ (b : Bool). cond b r.observed.items []) (ne_eqb r.satellite k other)
other-row k (x ∷ rows) r other = ap (λ (os : List Observed). cond (x.satellite == k) x.observed.items os) (other-row k rows r other)

-- a row of an epoch, which stands at this place
pub record IsRowAt (e : EpochTableView) (i : ℕ) (r : SatelliteRow) : Type 0 where
  pub rise : RowsRise e.rows
  pub within : i < length e.rows
  pub is : r ≡ get_or e.rows i r

others-before : (e : EpochTableView) (i : ℕ) (r : SatelliteRow) → IsRowAt e i r → AreOfOthers r.satellite (take i e.rows) r
others-before e i r at = λ j lt same.
    let few : i ≤ length e.rows = let within = at.within in omega (arith, within) in
    let before : j < i = let size = length-take-le i e.rows few in omega (arith, lt, size) in
    let less = at.rise j i r before at.within in
    let here : (get_or e.rows i r).satellite ≡ r.satellite = sym (ap (λ (x : SatelliteRow). x.satellite) at.is) in
    let there : (get_or (take i e.rows) j r).satellite ≡ (get_or e.rows j r).satellite = ap (λ (x : SatelliteRow). x.satellite) (get_or-take i e.rows j r before) in
    omega (arith, less, here, there, same)

rows-more : (e : EpochTableView) (i : ℕ) (r : SatelliteRow) → IsRowAt e i r → take (i + 1) e.rows ≡ take i e.rows ++ r ∷ []
rows-more e i r at = take_more e.rows i r at.within ∙ ap (λ (x : SatelliteRow). take i e.rows ++ x ∷ []) (sym at.is)

-- what came of its satellite before it, and with it
pub before-it : (e : EpochTableView) (i : ℕ) (r : SatelliteRow) (es : List EpochTableView) → IsRowAt e i r
    → sightings_of r.satellite (first_rows e i ∷ es) ≡ absent_at e.time ∷ sightings_of r.satellite es
before-it e i r es at =
    ap (λ (os : List Observed). seen e.time os ∷ sightings_of r.satellite es) (none-of r.satellite (take i e.rows) r (others-before e i r at))
  where
    seen : ℕ → List Observed → Sighting
    seen t os = record { time = t; observed = os }

with-it : (e : EpochTableView) (i : ℕ) (r : SatelliteRow) (es : List EpochTableView) → IsRowAt e i r
    → sightings_of r.satellite (first_rows e (i + 1) ∷ es) ≡ record { time = e.time; observed = r.observed.items } ∷ sightings_of r.satellite es
with-it e i r es at =
    ap (λ (os : List Observed). seen e.time os ∷ sightings_of r.satellite es)
    (ap (λ (rows : List SatelliteRow). observed_in r.satellite rows) (rows-more e i r at) ∙ own-row r.satellite (take i e.rows) r r (others-before e i r at) refl)
  where
    seen : ℕ → List Observed → Sighting
    seen t os = record { time = t; observed = os }

-- what came of another satellite
same-for : (k : ℕ) (e : EpochTableView) (i : ℕ) (r : SatelliteRow) (es : List EpochTableView) → IsRowAt e i r → r.satellite ≢ k
    → sightings_of k (first_rows e i ∷ es) ≡ sightings_of k (first_rows e (i + 1) ∷ es)
same-for k e i r es at other =
    ap (λ (os : List Observed). seen e.time os ∷ sightings_of k es)
    (sym (ap (λ (rows : List SatelliteRow). observed_in k rows) (rows-more e i r at) ∙ other-row k (take i e.rows) r other))
  where
    seen : ℕ → List Observed → Sighting
    seen t os = record { time = t; observed = os }

-- the last record, as each satellite has it
pub record-is : (k : ℕ) (es : List EpochTableView) → newest_moment es ≡ last_record (sightings_of k es)
record-is k [] = refl
record-is k (e ∷ es) = refl

-- ---- one more row

-- the satellite of the row has none in the epoch so far
pub row-due : (e : EpochTableView) (i place most : ℕ) (r : SatelliteRow) (xs : List SatelliteCounts) (d : SatelliteCounts) (interval : Option ℕ) (es : List EpochTableView)
    → IsRowAt e i r → place + 1 ≡ r.satellite → place < most → StandForSatellites xs most interval (first_rows e i ∷ es)
    → StandsForSatellite (get_or xs place d) interval (absent_at e.time ∷ sightings_of r.satellite es)
row-due e i place most r xs d interval es at number few are =
    subst (λ (ss : List Sighting). StandsForSatellite (get_or xs place d) interval ss) (before-it e i r es at)
    (subst (λ (n : ℕ). StandsForSatellite (get_or xs place d) interval (sightings_of n (first_rows e i ∷ es))) number (are.each place d few))

-- what is known of each satellite by what came of it, with a row more
pub row-set : {X : Type 0} (P : X → List Sighting → Type 0) (e : EpochTableView) (i place most : ℕ) (r : SatelliteRow) (xs : List X) (y : X) (es : List EpochTableView)
    → IsRowAt e i r → place + 1 ≡ r.satellite → place < most → length xs ≡ most
    → ((k : ℕ) (d : X) → k < most → P (get_or xs k d) (sightings_of (k + 1) (first_rows e i ∷ es)))
    → P y (record { time = e.time; observed = r.observed.items } ∷ sightings_of r.satellite es)
    → (k : ℕ) (d : X) → k < most → P (get_or (set xs place y) k d) (sightings_of (k + 1) (first_rows e (i + 1) ∷ es))
row-set P e i place most r xs y es at number few size each stands k z within =
    elim (cases_eq k place) [
      | inl same ↦
          let inside : place < length xs = omega (arith, size, few) in
          subst (λ (j : ℕ). P (get_or (set xs place y) j z) (sightings_of (j + 1) (first_rows e (i + 1) ∷ es))) (sym same)
          (subst (λ (s : _). P s (sightings_of (place + 1) (first_rows e (i + 1) ∷ es))) (sym (get_or-set_same xs place y z inside))
          (subst (λ (n : ℕ). P y (sightings_of n (first_rows e (i + 1) ∷ es))) (sym number)
          (subst (λ (ss : List Sighting). P y ss) (sym (with-it e i r es at)) stands)))
      | inr other ↦
          let apart : r.satellite ≢ k + 1 = λ alike. absurd (other (omega (arith, alike, number))) in
          subst (λ (s : _). P s (sightings_of (k + 1) (first_rows e (i + 1) ∷ es))) (sym (get_or-set_other xs place k y z other))
          (subst (λ (ss : List Sighting). P (get_or xs k z) ss) (same-for (k + 1) e i r es at apart) (each k z within))
    ]

pub row-noted : (e : EpochTableView) (i place most : ℕ) (r : SatelliteRow) (xs : List SatelliteCounts) (y : SatelliteCounts) (interval : Option ℕ) (es : List EpochTableView)
    → IsRowAt e i r → place + 1 ≡ r.satellite → place < most → StandForSatellites xs most interval (first_rows e i ∷ es)
    → StandsForSatellite y interval (record { time = e.time; observed = r.observed.items } ∷ sightings_of r.satellite es)
    → StandForSatellites (set xs place y) most interval (first_rows e (i + 1) ∷ es)
row-noted e i place most r xs y interval es at number few are stands = record {
  size = length-set xs place y ∙ are.size;
  each = row-set (λ (s : SatelliteCounts) (ss : List Sighting). StandsForSatellite s interval ss) e i place most r xs y es at number few are.size are.each stands;
}

pub row-ended : (e : EpochTableView) (i most : ℕ) (r : SatelliteRow) (old new : List EndedPass) (pass : Option PassCounts) (interval : Option ℕ) (es : List EpochTableView)
    → IsRowAt e i r → StandForEnded old most interval (first_rows e i ∷ es) → new ≡ with_ended old r.satellite pass
    → StandsForEnded pass interval (sightings_of r.satellite es) (record { time = e.time; observed = r.observed.items })
    → StandForEnded new most interval (first_rows e (i + 1) ∷ es)
row-ended e i most r old new pass interval es at are took stands = λ place within.
    elim (cases_eq (place + 1) r.satellite) [
      | inl same ↦
          let was : HasEnded old interval (absent_at e.time ∷ sightings_of r.satellite es) r.satellite =
          subst (λ (ss : List Sighting). HasEnded old interval ss r.satellite) (before-it e i r es at)
          (subst (λ (n : ℕ). HasEnded old interval (sightings_of n (first_rows e i ∷ es)) n) same (are place within)) in
          subst (λ (n : ℕ). HasEnded new interval (sightings_of n (first_rows e (i + 1) ∷ es)) n) (sym same)
          (subst (λ (ss : List Sighting). HasEnded new interval ss r.satellite) (sym (with-it e i r es at))
          (ap (λ (xs : List EndedPass). ended_of r.satellite xs) took ∙ with-own r.satellite old pass
          ∙ ap (λ (ps : List PassCounts). ps ++ list_of pass) was
          ∙ ap (λ (p : Option PassCounts). reverse (older_passes (passes_of interval (sightings_of r.satellite es))) ++ list_of p) stands
          ∙ sym (older-more interval (sightings_of r.satellite es) (record { time = e.time; observed = r.observed.items }))))
      | inr other ↦
          let apart : r.satellite ≢ place + 1 = λ alike. absurd (other (sym alike)) in
          subst (λ (ss : List Sighting). HasEnded new interval ss (place + 1)) (same-for (place + 1) e i r es at apart)
          (ap (λ (xs : List EndedPass). ended_of (place + 1) xs) took ∙ with-other (place + 1) r.satellite old pass apart ∙ are place within)
    ]

-- the slips and returns of one more row
pub locks-more : (e : EpochTableView) (i : ℕ) (r : SatelliteRow) (interval : Option ℕ) (es : List EpochTableView) (old own new : Locks)
    → IsRowAt e i r → own ≡ locks_at interval (sightings_of r.satellite es) (record { time = e.time; observed = r.observed.items }) → new ≡ locks_plus old own
    → locks_onto interval es e.time old (drop i e.rows) ≡ locks_onto interval es e.time new (drop (i + 1) e.rows)
locks-more e i r interval es old own new at is added =
    let rest : List SatelliteRow = drop (i + 1) e.rows in
    at_drop_more (λ (rows : List SatelliteRow). locks_onto interval es e.time old rows) e.rows i r at.within
    ∙ ap (λ (x : SatelliteRow). locks_onto interval es e.time (locks_plus old (locks_at interval (sightings_of x.satellite es) (seen x))) rest) (sym at.is)
    ∙ ap (λ (x : Locks). locks_onto interval es e.time (locks_plus old x) rest) (sym is)
    ∙ ap (λ (x : Locks). locks_onto interval es e.time x rest) (sym added)
  where
    seen : SatelliteRow → Sighting
    seen x = record { time = e.time; observed = x.observed.items }

-- what one more row tells
pub told-more : {T : Type 0} (size : T → ℕ) (told : SatelliteRow → Option T) (e : EpochTableView) (i : ℕ) (r : SatelliteRow) (x : Option T) (old new : Largest T) (all : List T)
    → IsRowAt e i r → x ≡ told r → AreLargest size old (all ++ flat_map (λ y. list_if_any (told y)) (take i e.rows))
    → ((xs : List T) → AreLargest size old xs → AreLargest size new (xs ++ list_if_any x))
    → AreLargest size new (all ++ flat_map (λ y. list_if_any (told y)) (take (i + 1) e.rows))
told-more size told e i r x old new all at is was took =
    let before : List _ = flat_map (λ y. list_if_any (told y)) (take i e.rows) in
    let here : list_if_any x ≡ flat_map (λ y. list_if_any (told y)) (r ∷ []) = ap (λ (o : Option _). list_if_any o) is ∙ sym (append-nil _) in
    let longer : flat_map (λ y. list_if_any (told y)) (take (i + 1) e.rows) ≡ before ++ list_if_any x =
    ap (λ (rows : List SatelliteRow). flat_map (λ y. list_if_any (told y)) rows) (rows-more e i r at)
    ∙ flat_map-append (λ y. list_if_any (told y)) (take i e.rows) (r ∷ []) ∙ ap (λ (xs : List _). before ++ xs) (sym here) in
    subst (λ (xs : List _). AreLargest size new xs)
    (append_assoc all before (list_if_any x) ∙ ap (λ (xs : List _). all ++ xs) (sym longer)) (took (all ++ before) was)

-- what one more satellite tells
pub last-told : {T : Type 0} (size : T → ℕ) (told : ℕ → Option T) (n k : ℕ) (x : Option T) (old new : Largest T) (all : List T)
    → k ≡ 1 + n → x ≡ told k → AreLargest size old (all ++ flat_map (λ y. list_if_any (told y)) (range_with_len 1 n))
    → ((xs : List T) → AreLargest size old xs → AreLargest size new (xs ++ list_if_any x))
    → AreLargest size new (all ++ flat_map (λ y. list_if_any (told y)) (range_with_len 1 (n + 1)))
last-told size told n k x old new all at is was took =
    let before : List _ = flat_map (λ y. list_if_any (told y)) (range_with_len 1 n) in
    let here : list_if_any x ≡ flat_map (λ y. list_if_any (told y)) ((1 + n) ∷ []) =
    ap (λ (o : Option _). list_if_any o) (is ∙ ap (λ (j : ℕ). told j) at) ∙ sym (append-nil _) in
    let longer : flat_map (λ y. list_if_any (told y)) (range_with_len 1 (n + 1)) ≡ before ++ list_if_any x =
    ap (λ (ks : List ℕ). flat_map (λ y. list_if_any (told y)) ks) (range-more 1 n)
    ∙ flat_map-append (λ y. list_if_any (told y)) (range_with_len 1 n) ((1 + n) ∷ []) ∙ ap (λ (xs : List _). before ++ xs) (sym here) in
    subst (λ (xs : List _). AreLargest size new xs)
    (append_assoc all before (list_if_any x) ∙ ap (λ (xs : List _). all ++ xs) (sym longer)) (took (all ++ before) was)

slips-are : (interval : Option ℕ) (before : List Sighting) (s : Sighting) → (locks_at interval before s).slips ≡ slips_of interval before s
slips-are interval before s =
    let some : Locks = record { slips = slips_at interval before s; returns = returns_at interval before s } in
    elim (cases_Bool (has_phase s.observed)) [
      | inl has ↦ ap (λ (b : Bool). (cond b some no_locks).slips) has ∙ sym (ap (λ (b : Bool). cond b (slips_at interval before s) 0) has)
      | inr none ↦ ap (λ (b : Bool). (cond b some no_locks).slips) none ∙ sym (ap (λ (b : Bool). cond b (slips_at interval before s) 0) none)
    ]

-- how many satellites slip and have a phase, with one more row
pub together-more : (e : EpochTableView) (i : ℕ) (r : SatelliteRow) (interval : Option ℕ) (es : List EpochTableView) (slips : ℕ) (tracked : Bool) (old new : Together)
    → IsRowAt e i r → slips ≡ (locks_at interval (sightings_of r.satellite es) (record { time = e.time; observed = r.observed.items })).slips
    → tracked ≡ has_phase r.observed.items → old ≡ together_in interval es e.time (take i e.rows) → new ≡ together_plus old slips tracked
    → new ≡ together_in interval es e.time (take (i + 1) e.rows)
together-more e i r interval es slips tracked old new at is has was took =
    let s : Sighting = record { time = e.time; observed = r.observed.items } in
    let p : SatelliteRow → Bool = is_slipping interval es e.time in
    let n : ℕ = count_by p (take i e.rows) in
    let m : ℕ = count_by is_tracked (take i e.rows) in
    let slip : slips ≡ slips_of interval (sightings_of r.satellite es) s = is ∙ slips-are interval (sightings_of r.satellite es) s in
    let first : plus (capped n) (cond (ltb 0 slips) 1 0) ≡ capped (count_by p (take (i + 1) e.rows)) =
    ap (λ (k : ℕ). plus (capped n) (cond (ltb 0 k) 1 0)) slip ∙ one-more p in
    let second : plus (capped m) (cond tracked 1 0) ≡ capped (count_by is_tracked (take (i + 1) e.rows)) =
    ap (λ (b : Bool). plus (capped m) (cond b 1 0)) has ∙ one-more is_tracked in
    took ∙ ap (λ (o : Together). together_plus o slips tracked) was
    ∙ ap (λ (k : ℕ). made k (plus (capped m) (cond tracked 1 0))) first ∙ ap (λ (k : ℕ). made (capped (count_by p (take (i + 1) e.rows))) k) second
  where
    made : ℕ → ℕ → Together
    made a b = record { slipping = a; tracked = b }

    one-more : (p : SatelliteRow → Bool) → plus (capped (count_by p (take i e.rows))) (cond (p r) 1 0) ≡ capped (count_by p (take (i + 1) e.rows))
    one-more p =
        let longer : count_by p (take (i + 1) e.rows) ≡ count_by p (take i e.rows) + cond (p r) 1 0 =
        ap (λ (rows : List SatelliteRow). count_by p rows) (rows-more e i r at) ∙ sum_by_push (λ x. cond (p x) 1 0) (take i e.rows) r in
        omega (arith, longer)
