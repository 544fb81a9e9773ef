-- The runs of epochs at which a code is missing, an epoch more, and all of them one after another.
use Rattle.std.proofs.Common.{◌≡◌, ◌≢◌, ◌<◌, ◌≤◌, ◌+◌, ◌++◌, ℕ, suc, Bool, true, false, List, [], ◌∷◌, length, take, set, get_or, map, All, Option, None, refl, sym, ap, subst, inl, inr, ◌∙◌, get_or-set_same, get_or-set_other, length-set, arith, append_assoc}
use Rattle.std.specs.Prelude.{flat_map}
use Rattle.std.specs.List.{range_with_len}
use Rattle.std.proofs.lemmas.Bool.{cases_eq}
use Rattle.std.proofs.lemmas.List.{append-nil, take_more, map_push, map-append, length-take-le}
use Rattle.std.proofs.lemmas.Grind.{flat_map-append}
use Rattle.rtk_obs.specs.declared.any_code.AnyCode.{AnyCode}
use Rattle.rtk_obs.specs.declared.time.Civil.{Civil}
use Rattle.rtk_obs.specs.Reading.{reading_of}
use Rattle.rtk_rinex.specs.Record.{EpochTableView}
use Rattle.rtk_rinex.specs.declared.epoch_table.SatelliteRow.{SatelliteRow}
use Rattle.rtk_tracking.specs.Passes.{Sighting, sightings_of, has_phase, begins_pass}
use Rattle.rtk_quality.specs.Largest.{list_of, AreLargest}
use Rattle.rtk_quality.specs.Missing.{lacks, ended_missings, if_listed, missing_of, missing_from}
use Rattle.rtk_quality.specs.Runs.{run_after, run_ended}
use Rattle.rtk_quality.specs.Standing.{absent_at, without_rows, StandsForMissing, StandForCodes, StandForMissing}
use Rattle.rtk_quality.specs.declared.largest.Largest.{Largest}
use Rattle.rtk_quality.specs.declared.missing.MissingCode.{MissingCode}
use Rattle.rtk_quality.specs.declared.missing.MissingCodes.{MissingCodes}
use Rattle.rtk_quality.specs.declared.missing.MissingRuns.{MissingRuns}
use Rattle.rtk_quality.specs.declared.runs.Run.{Run}
use Rattle.rtk_quality.proofs.ListLemmas.{range-more}
use Rattle.rtk_quality.proofs.RunLemmas.{run-more, run-same, run-ends, no-run-ends}
use Rattle.rtk_quality.proofs.RowLemmas.{first_rows, IsRowAt, before-it, row-set}

-- ---- before the first epoch

-- no run came
abbrev pub IsFresh : MissingRuns → Type 0
IsFresh m = (m.newest ≡ None) × (m.ended.items ≡ [])

pub fresh-codes : (codes : List MissingRuns) (count : ℕ) (interval : Option ℕ) → length codes ≡ count → All IsFresh codes → StandForCodes codes count interval []
fresh-codes codes count interval size fresh = record {
  size = size;
  each = λ place d within.
      let inside : place < length codes = omega (arith, size) in
      record { newest = (fresh place d inside).0; ended = (fresh place d inside).1 };
}

-- ---- an epoch more

pub missing-more : (interval : Option ℕ) (place : ℕ) (before : List Sighting) (s : Sighting) (old new : MissingRuns) (begins holds : Bool) (reading : Civil)
    → StandsForMissing old interval place before → begins ≡ begins_pass interval before s → holds ≡ lacks place s.observed → reading ≡ reading_of s.time
    → has_phase s.observed ≡ true → new.newest ≡ run_after old.newest begins holds reading
    → new.ended.items ≡ old.ended.items ++ list_of (if_listed interval (run_ended old.newest begins holds))
    → StandsForMissing new interval place (s ∷ before)
missing-more interval place before s old new begins holds reading was is_begin is_one at has took added = record {
  newest = run-more (lacks place) interval before s old.newest new.newest begins holds reading was.newest is_begin is_one at has took;
  ended = added ∙ ap (λ (rs : List Run). rs ++ list_of (if_listed interval (run_ended old.newest begins holds))) was.ended
      ∙ ap (λ (o : Option Run). ended_missings interval place before ++ list_of (if_listed interval o))
      (run-ends (lacks place) interval before s old.newest (run_ended old.newest begins holds) begins holds was.newest is_begin is_one has refl);
}

missing-same : (interval : Option ℕ) (place : ℕ) (before : List Sighting) (s : Sighting) (m : MissingRuns)
    → has_phase s.observed ≡ false → StandsForMissing m interval place before → StandsForMissing m interval place (s ∷ before)
missing-same interval place before s m none was = record {
  newest = was.newest ∙ sym (run-same (lacks place) interval before s none);
  ended = was.ended ∙ sym (append-nil (ended_missings interval place before))
      ∙ ap (λ (o : Option Run). ended_missings interval place before ++ list_of (if_listed interval o)) (no-run-ends (lacks place) interval before s none);
}

-- without a phase nothing changes
pub codes-same : (interval : Option ℕ) (count : ℕ) (before : List Sighting) (s : Sighting) (codes : List MissingRuns)
    → has_phase s.observed ≡ false → StandForCodes codes count interval before → StandForCodes codes count interval (s ∷ before)
codes-same interval count before s codes none are = record {
  size = are.size;
  each = λ place d within. missing-same interval place before s (get_or codes place d) none (are.each place d within);
}

-- the codes before a place have an epoch more
pub record CodesUpTo (n : ℕ) (codes : List MissingRuns) (count : ℕ) (interval : Option ℕ) (s : Sighting) (before : List Sighting) : Type 0 where
  pub size : length codes ≡ count
  pub new : (place : ℕ) (d : MissingRuns) → place < n → StandsForMissing (get_or codes place d) interval place (s ∷ before)
  pub old : (place : ℕ) (d : MissingRuns) → n ≤ place → place < count → StandsForMissing (get_or codes place d) interval place before

pub no-code-yet : (codes : List MissingRuns) (count : ℕ) (interval : Option ℕ) (s : Sighting) (before : List Sighting) → StandForCodes codes count interval before
    → CodesUpTo 0 codes count interval s before
no-code-yet codes count interval s before are = record {
  size = are.size;
  new = λ place d below. absurd (omega arith);
  old = λ place d above within. are.each place d within;
}

pub all-codes : (n : ℕ) (codes : List MissingRuns) (count : ℕ) (interval : Option ℕ) (s : Sighting) (before : List Sighting) → length codes ≤ n
    → CodesUpTo n codes count interval s before → StandForCodes codes count interval (s ∷ before)
all-codes n codes count interval s before end are = record {
  size = are.size;
  each = λ place d within.
      let below : place < n = let size = are.size in omega (arith, size) in
      are.new place d below;
}

pub code-more : (n : ℕ) (codes : List MissingRuns) (y : MissingRuns) (count : ℕ) (interval : Option ℕ) (s : Sighting) (before : List Sighting) → n < length codes
    → CodesUpTo n codes count interval s before → StandsForMissing y interval n (s ∷ before) → CodesUpTo (n + 1) (set codes n y) count interval s before
code-more n codes y count interval s before within are stands = record {
  size = length-set codes n y ∙ are.size;
  new = λ place d below.
      elim (cases_eq place n) [
        | inl same ↦
            subst (λ (k : ℕ). StandsForMissing (get_or (set codes n y) k d) interval k (s ∷ before)) (sym same)
            (subst (λ (m : MissingRuns). StandsForMissing m interval n (s ∷ before)) (sym (get_or-set_same codes n y d within)) stands)
        | inr other ↦
            let earlier : place < n = omega arith in
            subst (λ (m : MissingRuns). StandsForMissing m interval place (s ∷ before)) (sym (get_or-set_other codes n place y d other)) (are.new place d earlier)
      ];
  old = λ place d above inside.
      let other : place ≢ n = λ same. absurd (omega arith) in
      let later : n ≤ place = omega arith in
      subst (λ (m : MissingRuns). StandsForMissing m interval place before) (sym (get_or-set_other codes n place y d other)) (are.old place d later inside);
}

-- ---- a row more

-- before the rows of an epoch nothing has changed
pub no-row-yet : (xs : List MissingCodes) (count most : ℕ) (interval : Option ℕ) (time : ℕ) (es : List EpochTableView) → StandForMissing xs count most interval es
    → StandForMissing xs count most interval (without_rows time ∷ es)
no-row-yet xs count most interval time es are = record {
  size = are.size;
  each = λ place d within. codes-same interval count (sightings_of (place + 1) es) (absent_at time) (get_or xs place d).codes.items refl (are.each place d within);
}

missing-due : (interval : Option ℕ) (place : ℕ) (before : List Sighting) (time : ℕ) (m : MissingRuns) → StandsForMissing m interval place (absent_at time ∷ before) → StandsForMissing m interval place before
missing-due interval place before time m was = record {
  newest = was.newest;
  ended = was.ended ∙ append-nil (ended_missings interval place before);
}

-- the satellite of the row has none in the epoch so far
pub codes-due : (e : EpochTableView) (i place most : ℕ) (r : SatelliteRow) (xs : List MissingCodes) (d : MissingCodes) (count : ℕ) (interval : Option ℕ) (es : List EpochTableView)
    → IsRowAt e i r → place + 1 ≡ r.satellite → place < most → StandForMissing xs count most interval (first_rows e i ∷ es)
    → StandForCodes (get_or xs place d).codes.items count interval (sightings_of r.satellite es)
codes-due e i place most r xs d count interval es at number few are =
    let own : List MissingRuns = (get_or xs place d).codes.items in
    let before : List Sighting = sightings_of r.satellite es in
    let was : StandForCodes own count interval (absent_at e.time ∷ before) =
    subst (λ (ss : List Sighting). StandForCodes own count interval ss) (before-it e i r es at)
    (subst (λ (n : ℕ). StandForCodes own count interval (sightings_of n (first_rows e i ∷ es))) number (are.each place d few)) in
    record {
      size = was.size;
      each = λ k m within. missing-due interval k before e.time (get_or own k m) (was.each k m within);
    }

pub codes-noted : (e : EpochTableView) (i place most : ℕ) (r : SatelliteRow) (xs : List MissingCodes) (y : MissingCodes) (count : ℕ) (interval : Option ℕ) (es : List EpochTableView)
    → IsRowAt e i r → place + 1 ≡ r.satellite → place < most → StandForMissing xs count most interval (first_rows e i ∷ es)
    → StandForCodes y.codes.items count interval (record { time = e.time; observed = r.observed.items } ∷ sightings_of r.satellite es)
    → StandForMissing (set xs place y) count most interval (first_rows e (i + 1) ∷ es)
codes-noted e i place most r xs y count interval es at number few are stands = record {
  size = length-set xs place y ∙ are.size;
  each = row-set (λ (m : MissingCodes) (ss : List Sighting). StandForCodes m.codes.items count interval ss) e i place most r xs y es at number few are.size are.each stands;
}

-- ---- one after another

-- a thing more
pub thing-more : {X T : Type 0} (size : T → ℕ) (f : X → T) (xs : List X) (i : ℕ) (d : X) (old new : Largest T) (all : List T)
    → i < length xs → AreLargest size old (all ++ map f (take i xs))
    → ((ys : List T) → AreLargest size old ys → AreLargest size new (ys ++ f (get_or xs i d) ∷ []))
    → AreLargest size new (all ++ map f (take (i + 1) xs))
thing-more size f xs i d old new all within was took =
    let before : List _ = map f (take i xs) in
    let longer : map f (take (i + 1) xs) ≡ before ++ f (get_or xs i d) ∷ [] =
    ap (λ (ys : List _). map f ys) (take_more xs i d within) ∙ map_push f (take i xs) (get_or xs i d) in
    subst (λ (ys : List _). AreLargest size new ys) (append_assoc all before (f (get_or xs i d) ∷ []) ∙ ap (λ (ys : List _). all ++ ys) (sym longer)) (took (all ++ before) was)

-- the run that goes on, after those that ended
pub last-run : {X T : Type 0} (size : T → ℕ) (f : X → T) (xs : List X) (ys : List X) (new : Largest T) (all : List T)
    → AreLargest size new ((all ++ map f xs) ++ map f ys) → AreLargest size new (all ++ map f (xs ++ ys))
last-run size f xs ys new all are =
    subst (λ (zs : List _). AreLargest size new zs) (append_assoc all (map f xs) (map f ys) ∙ ap (λ (zs : List _). all ++ zs) (sym (map-append f xs ys))) are

from-append : (interval : Option ℕ) (before : List Sighting) (satellite at : ℕ) (codes : List AnyCode) (c : AnyCode)
    → missing_from interval before satellite at (codes ++ c ∷ []) ≡ missing_from interval before satellite at codes ++ missing_of interval before satellite (at + length codes) c
from-append interval before satellite at [] c =
    let here : at ≡ at + 0 = omega arith in
    append-nil (missing_of interval before satellite at c) ∙ ap (λ (k : ℕ). missing_of interval before satellite k c) here
from-append interval before satellite at (x ∷ codes) c =
    let here : (at + 1) + length codes ≡ at + suc (length codes) = omega arith in
    let own : List MissingCode = missing_of interval before satellite at x in
    let rest : List MissingCode = missing_from interval before satellite (at + 1) codes in
    ap (λ (ms : List MissingCode). own ++ ms) (from-append interval before satellite (at + 1) codes c)
    ∙ sym (append_assoc own rest (missing_of interval before satellite ((at + 1) + length codes) c))
    ∙ ap (λ (k : ℕ). (own ++ rest) ++ missing_of interval before satellite k c) here

-- a code more
pub codes-more : (interval : Option ℕ) (before : List Sighting) (satellite i : ℕ) (codes : List AnyCode) (d : AnyCode) (size : MissingCode → ℕ) (old new : Largest MissingCode) (all : List MissingCode)
    → i < length codes → AreLargest size old (all ++ missing_from interval before satellite 0 (take i codes))
    → ((ms : List MissingCode) → AreLargest size old ms → AreLargest size new (ms ++ missing_of interval before satellite i (get_or codes i d)))
    → AreLargest size new (all ++ missing_from interval before satellite 0 (take (i + 1) codes))
codes-more interval before satellite i codes d size old new all within was took =
    let c : AnyCode = get_or codes i d in
    let had : List MissingCode = missing_from interval before satellite 0 (take i codes) in
    let few : i ≤ length codes = omega (arith, within) in
    let here : 0 + length (take i codes) ≡ i = let long = length-take-le i codes few in omega (arith, long) in
    let longer : missing_from interval before satellite 0 (take (i + 1) codes) ≡ had ++ missing_of interval before satellite i c =
    ap (λ (cs : List AnyCode). missing_from interval before satellite 0 cs) (take_more codes i d within)
    ∙ from-append interval before satellite 0 (take i codes) c ∙ ap (λ (k : ℕ). had ++ missing_of interval before satellite k c) here in
    subst (λ (ms : List MissingCode). AreLargest size new ms)
    (append_assoc all had (missing_of interval before satellite i c) ∙ ap (λ (ms : List MissingCode). all ++ ms) (sym longer)) (took (all ++ had) was)

-- a satellite more
pub satellites-more : {T : Type 0} (size : T → ℕ) (told : ℕ → List T) (n : ℕ) (old new : Largest T) (all : List T)
    → AreLargest size old (all ++ flat_map told (range_with_len 1 n))
    → ((xs : List T) → AreLargest size old xs → AreLargest size new (xs ++ told (n + 1)))
    → AreLargest size new (all ++ flat_map told (range_with_len 1 (n + 1)))
satellites-more size told n old new all was took =
    let before : List _ = flat_map told (range_with_len 1 n) in
    let next : 1 + n ≡ n + 1 = omega arith in
    let longer : flat_map told (range_with_len 1 (n + 1)) ≡ before ++ told (n + 1) =
    ap (λ (ks : List ℕ). flat_map told ks) (range-more 1 n) ∙ flat_map-append told (range_with_len 1 n) ((1 + n) ∷ [])
    ∙ ap (λ (xs : List _). before ++ xs) (append-nil (told (1 + n))) ∙ ap (λ (k : ℕ). before ++ told k) next in
    subst (λ (xs : List _). AreLargest size new xs) (append_assoc all before (told (n + 1)) ∙ ap (λ (xs : List _). all ++ xs) (sym longer)) (took (all ++ before) was)
