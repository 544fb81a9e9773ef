-- The first fault of a 1012, and its satellites one by one.
use Rattle.std.proofs.Common.{◌≡◌, ℕ, Bool, true, false, List, [], ◌∷◌, ◌++◌, length, zero, suc, get_or, take, Some, refl, sym, ◌+◌, ◌*◌, ◌<◌, ◌≤◌, ltb, leb, arith}
use Rattle.std.specs.List.{flat_map}
use Rattle.std.proofs.lemmas.Bool.{le-ltb, lt-ltb, le-leb, lt-leb}
use Rattle.std.proofs.lemmas.List.{flat_map_more, take_more, take_more_set, take_all}
use Rattle.std.proofs.Math.ListN.{set}
use Rattle.rtk_message.specs.declared.fault.DecodeFault.TheVariants.{Short, EpochRange}
use Rattle.rtk_message.specs.declared.obs1012.GlonassSatellite.{GlonassSatellite}
use Rattle.rtk_message.specs.Fields.{longest_day_ms, FieldsFit, TakesAll}
use Rattle.rtk_message.specs.Steps.FieldSteps.{PutsAll}
use Rattle.rtk_message.specs.FieldLaws.{fit-parts}
use Rattle.rtk_message.specs.Obs1012.{satellite_table, header_fields, first_fault, time_of_day_in, satellite_bits}
use Rattle.rtk_message.specs.Obs1012Laws.{header_says}
use Rattle.rtk_message.proofs.FieldLemmas.{took_both, put_both}

pub is_out_of_day : {s t : ℕ} {y : Bool} {n : ℕ} {k : Bool} {v : ℕ} {bs rest : List Bool} → TakesAll (header_fields s t y n k v) bs rest → longest_day_ms ≤ t → first_fault bs ≡ Some (EpochRange 1012)
is_out_of_day {t = t} {bs = bs} took h =
    let says = header_says took in
    let long : ltb (length bs) 49 ≡ false = le-ltb (length bs) 49 (omega (arith, says.len)) in
    let late : leb longest_day_ms (time_of_day_in bs) ≡ true = le-leb longest_day_ms (time_of_day_in bs) (omega (arith, says.time_is)) in
    rw (long, late) refl

pub is_cut : {s t : ℕ} {y : Bool} {n : ℕ} {k : Bool} {v : ℕ} {bs rest : List Bool} → TakesAll (header_fields s t y n k v) bs rest → t < longest_day_ms → length rest < 130 * n → first_fault bs ≡ Some (Short 1012)
is_cut {t = t} {bs = bs} took h short =
    let says = header_says took in
    let long : ltb (length bs) 49 ≡ false = le-ltb (length bs) 49 (omega (arith, says.len)) in
    let early : leb longest_day_ms (time_of_day_in bs) ≡ false = lt-leb longest_day_ms (time_of_day_in bs) (omega (arith, says.time_is)) in
    let cut : ltb (length bs) (49 + satellite_bits bs) ≡ true = lt-ltb (length bs) (49 + satellite_bits bs) (omega (arith, says.count_is, says.len)) in
    rw (long, early, cut) refl

pub fit_at : (xs : List GlonassSatellite) (k : ℕ) (d : GlonassSatellite) → k < length xs → FieldsFit (flat_map satellite_table xs) → FieldsFit (satellite_table (get_or xs k d))
fit_at [] k d h p = absurd (omega arith)
fit_at (x ∷ xs) zero d h p = (fit-parts (satellite_table x) (flat_map satellite_table xs) p).0
fit_at (x ∷ xs) (suc k) d h p = fit_at xs k d (omega arith) (fit-parts (satellite_table x) (flat_map satellite_table xs) p).1

pub rows_push : (xs : List GlonassSatellite) (x : GlonassSatellite) → flat_map satellite_table (xs ++ x ∷ []) ≡ flat_map satellite_table xs ++ satellite_table x
rows_push xs x = sym (flat_map_more satellite_table [] xs x)

took_push : (xs : List GlonassSatellite) (x : GlonassSatellite) (a b c : List Bool) → TakesAll (flat_map satellite_table xs) a b → TakesAll (satellite_table x) b c → TakesAll (flat_map satellite_table (xs ++ x ∷ [])) a c
took_push xs x a b c p q = rw (rows_push xs x) (took_both p q)

-- the satellite after the first k ones is set
pub took_set : (xs : List GlonassSatellite) (k : ℕ) (x : GlonassSatellite) (a b c : List Bool) → k < length xs → TakesAll (flat_map satellite_table (take k xs)) a b → TakesAll (satellite_table x) b c → TakesAll (flat_map satellite_table (take (k + 1) (set xs k x))) a c
took_set xs k x a b c h p q = rw (take_more_set xs k x h) (took_push (take k xs) x a b c p q)

-- all satellites are read
pub took_whole : (xs : List GlonassSatellite) (n : ℕ) (a b : List Bool) → length xs ≤ n → TakesAll (flat_map satellite_table (take n xs)) a b → TakesAll (flat_map satellite_table xs) a b
took_whole xs n a b h p = rw (take_all n xs h) at p

pub put_push : (xs : List GlonassSatellite) (k : ℕ) (d : GlonassSatellite) (a b c : List Bool) → k < length xs → PutsAll (flat_map satellite_table (take k xs)) a b → PutsAll (satellite_table (get_or xs k d)) b c → PutsAll (flat_map satellite_table (take (k + 1) xs)) a c
put_push xs k d a b c h p q = rw (take_more xs k d h, rows_push (take k xs) (get_or xs k d)) (put_both p q)
