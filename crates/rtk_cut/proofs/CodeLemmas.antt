-- The codes of a satellite: what they show, and with which slips.
use Rattle.std.proofs.Common.{◌≡◌, ◌<◌, ◌≤◌, ℕ, zero, suc, Bool, true, false, ◌||◌, Option, Some, None, ℤ, List, [], ◌∷◌, map, length, get_or, refl, sym, ap, ◌∙◌, arith}
use Rattle.std.specs.Prelude.{All, is_some}
use Rattle.std.specs.List.{range_with_len, list_any}
use Rattle.std.proofs.lemmas.List.{get_or_past}
use Rattle.std.proofs.lemmas.List.Elements.{All-head, All-tail, All-map}
use Rattle.std.proofs.lemmas.List.FromFn.{fill_by_all, length-map-range_with_len}
use Rattle.rtk_rinex.specs.declared.epoch_table.Observed.{Observed}
use Rattle.rtk_rinex.specs.declared.epoch_table.SatelliteRow.{SatelliteRow}
use Rattle.rtk_rinex.specs.Record.{IsStrengthOrNone, is_shown, has_line_in, no_observation}
use Rattle.rtk_rinex.specs.Table.{IsAbsentOrWritten, IsLock, IsObservedWithDoppler, IsObservedIn, IsTableRow}
use Rattle.rtk_rinex.specs.MixedForm.{FormView}
use Rattle.rtk_rinex.specs.MixedTable.{HasNoPhase, IsMixedRow}
use Rattle.rtk_cut.specs.Cut.{code_at, with_slip, row_with_slips}
use Rattle.rtk_cut.proofs.TestLemmas.{map-agree_below}

-- ---- one observation

-- only the slip changes
slip-phase : (p : Option ℤ) (slip : Bool) (o : Observed) → o.phase_millicycles ≡ p → (with_slip slip o).phase_millicycles ≡ o.phase_millicycles
slip-phase None slip o is = rw is refl
slip-phase (Some v) slip o is = rw is refl

-- an observation that has this slip already
own-slip : (b slip : Bool) (o : Observed) → is_some o.phase_millicycles ≡ b → (b ≡ true → slip ≡ o.slip) → with_slip slip o ≡ o
own-slip true slip o is same = rw is (ap (λ (x : Bool). record o { slip = x }) (same refl))
own-slip false slip o is same = rw is refl

pub with_slip-own : (slip : Bool) (o : Observed) → (is_some o.phase_millicycles ≡ true → slip ≡ o.slip) → with_slip slip o ≡ o
with_slip-own slip o same = own-slip (is_some o.phase_millicycles) slip o refl same

same-slip : (b slip : Bool) (o : Observed) → is_some o.phase_millicycles ≡ b → (with_slip slip o).slip ≡ o.slip → with_slip slip o ≡ o
same-slip true slip o is same = rw is (ap (λ (x : Bool). record o { slip = x }) (rw is at same))
same-slip false slip o is same = rw is refl

-- an observation whose slip stays has not changed
pub with_slip-unchanged : (slip : Bool) (o : Observed) → (with_slip slip o).slip ≡ o.slip → with_slip slip o ≡ o
with_slip-unchanged slip o same = same-slip (is_some o.phase_millicycles) slip o refl same

strength-kept : (b slip : Bool) (o : Observed) → is_some o.phase_millicycles ≡ b → (with_slip slip o).strength_millidbhz ≡ o.strength_millidbhz
strength-kept true slip o is = rw is refl
strength-kept false slip o is = rw is refl

pub with_slip-strength : (slip : Bool) (o : Observed) → IsStrengthOrNone o.strength_millidbhz → IsStrengthOrNone (with_slip slip o).strength_millidbhz
with_slip-strength slip o good = rw (strength-kept (is_some o.phase_millicycles) slip o refl) good

shown-kept : (doppler b slip : Bool) (o : Observed) → is_some o.phase_millicycles ≡ b → is_shown doppler (with_slip slip o) ≡ is_shown doppler o
shown-kept false true slip o is = rw is refl
shown-kept true true slip o is = rw is refl
shown-kept doppler false slip o is = rw is refl

pub with_slip-is_shown : (doppler slip : Bool) (o : Observed) → is_shown doppler (with_slip slip o) ≡ is_shown doppler o
with_slip-is_shown doppler slip o = shown-kept doppler (is_some o.phase_millicycles) slip o refl

lock-some : (p : Option ℤ) (slip half slip' : Bool) → is_some p ≡ true → IsLock p slip half → IsLock p slip' half
lock-some None slip half slip' is lock = cc
lock-some (Some v) slip half slip' is lock = tt

good-slip : (doppler b slip : Bool) (o : Observed) → is_some o.phase_millicycles ≡ b → IsObservedIn doppler o → IsObservedIn doppler (with_slip slip o)
good-slip false true slip o is good =
    rw is (record { range = good.range; phase = good.phase; strength = good.strength; lock = lock-some o.phase_millicycles o.slip o.half slip is good.lock; doppler = good.doppler })
good-slip true true slip o is good =
    rw is (record { range = good.range; phase = good.phase; strength = good.strength; lock = lock-some o.phase_millicycles o.slip o.half slip is good.lock; doppler = good.doppler })
good-slip doppler false slip o is good = rw is good

pub with_slip-good : (doppler slip : Bool) (o : Observed) → IsObservedIn doppler o → IsObservedIn doppler (with_slip slip o)
with_slip-good doppler slip o good = good-slip doppler (is_some o.phase_millicycles) slip o refl good

no-lock : (p : Option ℤ) (slip half : Bool) → IsLock p slip half → is_some p ≡ false → slip ≡ false
no-lock None slip half lock none = lock.0
no-lock (Some v) slip half lock none = cc

-- without a phase there is no slip
pub no-slip : (o : Observed) → IsObservedWithDoppler o → is_some o.phase_millicycles ≡ false → o.slip ≡ false
no-slip o good none = no-lock o.phase_millicycles o.slip o.half good.lock none

absent-written : (d : Option ℤ) → d ≡ None → IsAbsentOrWritten d
absent-written None is = tt
absent-written (Some v) is = cc

-- a file with Doppler shifts can show all that a file can show
pub observed-in_any : (doppler : Bool) (o : Observed) → IsObservedIn doppler o → IsObservedWithDoppler o
observed-in_any false o good =
    record { range = good.range; phase = good.phase; strength = good.strength; lock = good.lock; doppler = absent-written o.doppler_millihertz good.doppler }
observed-in_any true o good = good

-- ---- the codes

pub none-good : (doppler : Bool) → IsObservedIn doppler no_observation
none-good false = record { range = tt; phase = tt; strength = tt; lock = (refl, refl); doppler = refl }
none-good true = record { range = tt; phase = tt; strength = tt; lock = (refl, refl); doppler = tt }

pub codes-good : (doppler : Bool) (xs : List Observed) (c : ℕ) → All (IsObservedIn doppler) xs → IsObservedIn doppler (get_or xs c no_observation)
codes-good doppler [] c good = none-good doppler
codes-good doppler (x ∷ xs) zero good = All-head (IsObservedIn doppler) x xs good
codes-good doppler (x ∷ xs) (suc c) good = codes-good doppler xs c (All-tail (IsObservedIn doppler) x xs good)

abbrev pub HasStrength : Observed → Type 0
HasStrength o = IsStrengthOrNone o.strength_millidbhz

pub codes-strong : (xs : List Observed) (c : ℕ) → All HasStrength xs → HasStrength (get_or xs c no_observation)
codes-strong [] c good = tt
codes-strong (x ∷ xs) zero good = All-head HasStrength x xs good
codes-strong (x ∷ xs) (suc c) good = codes-strong xs c (All-tail HasStrength x xs good)

pub row-no_slip : (c : ℕ) (r : SatelliteRow) → All IsObservedWithDoppler r.observed.items → is_some (code_at c r).phase_millicycles ≡ false → (code_at c r).slip ≡ false
row-no_slip c r good none = no-slip (code_at c r) (codes-good true r.observed.items c good) none

-- past the last code there is nothing
pub code-past : (c : ℕ) (r : SatelliteRow) → length r.observed.items ≤ c → code_at c r ≡ no_observation
code-past c r past = get_or_past r.observed.items c no_observation past

pub codes-own : (xs : List Observed) → map (λ c. get_or xs c no_observation) (range_with_len 0 (length xs)) ≡ xs
codes-own xs = sym (fill_by_all (λ c. get_or xs c no_observation) xs (length xs) no_observation refl (λ k lt. refl))

any-kept : (doppler : Bool) (slips : ℕ → Bool) (code : ℕ → Observed) (cs : List ℕ) → list_any (is_shown doppler) (map (λ c. with_slip (slips c) (code c)) cs) ≡ list_any (is_shown doppler) (map code cs)
any-kept doppler slips code [] = refl
any-kept doppler slips code (c ∷ cs) =
    let here : is_shown doppler (with_slip (slips c) (code c)) ≡ is_shown doppler (code c) = with_slip-is_shown doppler (slips c) (code c) in
    ap (λ b. b || list_any (is_shown doppler) (map (λ c. with_slip (slips c) (code c)) cs)) here ∙ ap (λ b. is_shown doppler (code c) || b) (any-kept doppler slips code cs)

line-kept : (doppler : Bool) (slips : ℕ → Bool) (r : SatelliteRow) → has_line_in doppler (row_with_slips slips r) ≡ has_line_in doppler r
line-kept doppler slips r =
    any-kept doppler slips (λ c. code_at c r) (range_with_len 0 (length r.observed.items)) ∙ ap (λ (os : List Observed). list_any (is_shown doppler) os) (codes-own r.observed.items)

pub row-wide : (slips : ℕ → Bool) (r : SatelliteRow) → length (row_with_slips slips r).observed.items ≡ length r.observed.items
row-wide slips r = length-map-range_with_len (λ c. with_slip (slips c) (code_at c r)) 0 (length r.observed.items)

-- what holds of each observation with any slip, holds of those of a row with any slips
pub row-all : (P : Observed → Type 0) (slips : ℕ → Bool) (r : SatelliteRow) → ((c : ℕ) → P (with_slip (slips c) (code_at c r))) → All P (row_with_slips slips r).observed.items
row-all P slips r each =
    All-map P (λ c. with_slip (slips c) (code_at c r)) (range_with_len 0 (length r.observed.items))
    (λ k d lt. each (get_or (range_with_len 0 (length r.observed.items)) k d))

pub row-observed : (doppler : Bool) (slips : ℕ → Bool) (r : SatelliteRow) → All (IsObservedIn doppler) r.observed.items → All (IsObservedIn doppler) (row_with_slips slips r).observed.items
row-observed doppler slips r good = row-all (IsObservedIn doppler) slips r (λ c. with_slip-good doppler (slips c) (code_at c r) (codes-good doppler r.observed.items c good))

-- a satellite of a file with any slips is one of a file
pub row-good : (slips : ℕ → Bool) (n : ℕ) (r : SatelliteRow) → IsTableRow n r → IsTableRow n (row_with_slips slips r)
row-good slips n r good =
    record {
      satellite = good.satellite;
      width = row-wide slips r ∙ good.width;
      observed = row-observed false slips r good.observed;
      line = line-kept false slips r ∙ good.line;
    }

codes-without_phase : (xs : List Observed) (c : ℕ) → All HasNoPhase xs → HasNoPhase (get_or xs c no_observation)
codes-without_phase [] c none = (refl, refl)
codes-without_phase (x ∷ xs) zero none = All-head HasNoPhase x xs none
codes-without_phase (x ∷ xs) (suc c) none = codes-without_phase xs c (All-tail HasNoPhase x xs none)

phase-kept : (b slip : Bool) (o : Observed) → is_some o.phase_millicycles ≡ b → HasNoPhase o → HasNoPhase (with_slip slip o)
phase-kept true slip o is none = rw is none
phase-kept false slip o is none = rw is none

-- so is one of any systems
pub row-good_mixed : (slips : ℕ → Bool) (f : FormView) (r : SatelliteRow) → IsMixedRow f r → IsMixedRow f (row_with_slips slips r)
row-good_mixed slips f r good =
    record {
      satellite = good.satellite;
      width = row-wide slips r ∙ good.width;
      observed = row-observed f.doppler slips r good.observed;
      phases = λ none. row-all HasNoPhase slips r (λ c. phase-kept (is_some (code_at c r).phase_millicycles) (slips c) (code_at c r) refl (codes-without_phase r.observed.items c (good.phases none)));
      line = line-kept f.doppler slips r ∙ good.line;
    }

-- its own slips change nothing
pub row-own : (slips : ℕ → Bool) (r : SatelliteRow) → ((c : ℕ) → c < length r.observed.items → is_some (code_at c r).phase_millicycles ≡ true → slips c ≡ (code_at c r).slip) → row_with_slips slips r ≡ r
row-own slips r own =
    let items : map (λ c. with_slip (slips c) (code_at c r)) (range_with_len 0 (length r.observed.items)) ≡ r.observed.items =
    map-agree_below (λ c. with_slip (slips c) (code_at c r)) (λ c. code_at c r) 0 (length r.observed.items)
    (λ c lt. let within : c < length r.observed.items = omega arith in with_slip-own (slips c) (code_at c r) (own c within)) ∙ codes-own r.observed.items in
    ap (λ (os : List Observed). record { satellite = r.satellite; observed = record { items = os } }) items
