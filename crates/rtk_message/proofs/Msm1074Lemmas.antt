-- The first fault of a 1074, and the columns of a valid one.
use Rattle.std.proofs.Common.{◌≡◌, ℕ, Bool, true, false, List, ◌++◌, length, Some, refl, sym, ◌∙◌, ◌+◌, ◌*◌, ◌<◌, ◌≤◌, ltb, leb, arith, sum_by, count_ones, ◌↔◌}
use Rattle.std.proofs.lemmas.Bool.{le-ltb, lt-ltb, le-leb, lt-leb, ltb-false, ltb_from_iff}
use Rattle.rtk_message.specs.declared.fault.DecodeFault.TheVariants.{Short, EpochRange, TooManyCells}
use Rattle.rtk_message.specs.declared.msm1074.MsmHeader.{MsmHeader}
use Rattle.rtk_message.specs.declared.msm1074.Msm1074.{Msm1074}
use Rattle.rtk_message.specs.Fields.{week_ms, tow_in, FieldsFit, TakesAll}
use Rattle.rtk_message.specs.FieldLaws.{fit-append, fit-parts}
use Rattle.rtk_message.specs.FieldColumns.{numbers, integers, flags}
use Rattle.rtk_message.specs.Msm1074.{header_table, satellite_count, signal_count, mask_table, column_table, table, HasLengths, IsValid, first_fault, mask_bits_in}
use Rattle.rtk_message.specs.Steps.EachFits.{EachFits}
use Rattle.rtk_message.specs.Msm1074Laws.{header_says, due, cells_says}
use Rattle.rtk_message.proofs.ColumnLemmas.{flags-fit}

pub is_out_of_week : {h : MsmHeader} {bs rest : List Bool} → TakesAll (header_table h) bs rest → week_ms ≤ h.tow → first_fault bs ≡ Some (EpochRange 1074)
is_out_of_week {h = h} {bs = bs} took late =
    let says = header_says took in
    let long : ltb (length bs) 157 ≡ false = le-ltb (length bs) 157 (omega (arith, says.len)) in
    let when : leb week_ms (tow_in bs) ≡ true = le-leb week_ms (tow_in bs) (omega (arith, says.tow_is, late)) in
    rw (long, when) refl

pub is_many : {h : MsmHeader} {bs rest : List Bool} → TakesAll (header_table h) bs rest → h.tow < week_ms → 64 < satellite_count h * signal_count h → first_fault bs ≡ Some TooManyCells
is_many {h = h} {bs = bs} took time many =
    let says = header_says took in
    let long : ltb (length bs) 157 ≡ false = le-ltb (length bs) 157 (omega (arith, says.len)) in
    let when : leb week_ms (tow_in bs) ≡ false = lt-leb week_ms (tow_in bs) (omega (arith, says.tow_is, time)) in
    let big : ltb 64 (mask_bits_in bs) ≡ true = lt-ltb 64 (mask_bits_in bs) (omega (arith, says.mask_bits_is, many)) in
    rw (long, when, big) refl

pub is_cut : {h : MsmHeader} {bs rest : List Bool} → TakesAll (header_table h) bs rest → h.tow < week_ms → satellite_count h * signal_count h ≤ 64 → length bs < due bs → first_fault bs ≡ Some (Short 1074)
is_cut {h = h} {bs = bs} took time few short =
    let says = header_says took in
    let long : ltb (length bs) 157 ≡ false = le-ltb (length bs) 157 (omega (arith, says.len)) in
    let when : leb week_ms (tow_in bs) ≡ false = lt-leb week_ms (tow_in bs) (omega (arith, says.tow_is, time)) in
    let big : ltb 64 (mask_bits_in bs) ≡ false = le-ltb 64 (mask_bits_in bs) (omega (arith, says.mask_bits_is, few)) in
    let cut : ltb (length bs) (due bs) ≡ true = lt-ltb (length bs) (due bs) short in
    rw (long, when, big, cut) refl

-- fewer bits than the cell mask
pub is_cut_mask : {h : MsmHeader} {bs rest : List Bool} → TakesAll (header_table h) bs rest → h.tow < week_ms → satellite_count h * signal_count h ≤ 64 → length rest < satellite_count h * signal_count h → first_fault bs ≡ Some (Short 1074)
is_cut_mask took time few short = let says = header_says took in is_cut took time few (omega (arith, says.len, says.mask_bits_is, short))

pub is_cut_rest : {h : MsmHeader} {bs rest after : List Bool} (ns : List ℕ) → TakesAll (header_table h) bs rest → TakesAll (numbers (signal_count h) ns) rest after → length ns ≡ satellite_count h → h.tow < week_ms → satellite_count h * signal_count h ≤ 64
    → length rest ≡ signal_count h * satellite_count h + length after → length after < 18 * satellite_count h + 48 * sum_by count_ones ns → first_fault bs ≡ Some (Short 1074)
is_cut_rest {h = h} ns took mask len time few size short =
    let says = header_says took in
    is_cut took time few (omega (arith, says.len, says.mask_bits_is, says.satellites_is, cells_says ns took mask len, size, short))

pub each_fits : (m : Msm1074) → FieldsFit (table m) → EachFits m
each_fits m p =
    let a = fit-parts (header_table m.header) (mask_table m ++ column_table m) p in
    let b = fit-parts (mask_table m) (column_table m) a.1 in
    let c = fit-parts (numbers 8 m.rough_ms) _ b.1 in
    let d = fit-parts (numbers 10 m.rough_fraction) _ c.1 in
    let e = fit-parts (integers 15 m.fine_range) _ d.1 in
    let f = fit-parts (integers 22 m.fine_phase) _ e.1 in
    let g = fit-parts (numbers 4 m.lock_indicator) _ f.1 in
    let h = fit-parts (flags m.half_cycle) _ g.1 in
    record { cell_mask = b.0; rough_ms = c.0; rough_fraction = d.0; fine_range = e.0; fine_phase = f.0; lock_indicator = g.0; cnr = h.1 }

pub all_fit : (m : Msm1074) → FieldsFit (header_table m.header) → EachFits m → FieldsFit (table m)
all_fit m h p =
    fit-append (header_table m.header) (mask_table m ++ column_table m) h
    (fit-append (mask_table m) (column_table m) p.cell_mask
    (fit-append (numbers 8 m.rough_ms) _ p.rough_ms
    (fit-append (numbers 10 m.rough_fraction) _ p.rough_fraction
    (fit-append (integers 15 m.fine_range) _ p.fine_range
    (fit-append (integers 22 m.fine_phase) _ p.fine_phase
    (fit-append (numbers 4 m.lock_indicator) _ p.lock_indicator
    (fit-append (flags m.half_cycle) _ (flags-fit m.half_cycle) p.cnr)))))))

pub is_valid : (m : Msm1074) → FieldsFit (header_table m.header) → m.header.tow < week_ms → satellite_count m.header * signal_count m.header ≤ 64 → HasLengths m → EachFits m → IsValid m
is_valid m head time few lengths each = record { fields_fit = all_fit m head each; time_in_week = time; mask_bits = few; lengths = lengths }

-- at most 64, if the test for more than 64 says no
pub few_of : {b : Bool} {k : ℕ} → ((b ≡ true) ↔ (64 < k)) → b ≡ false → k ≤ 64
few_of {k = k} test none = ltb-false 64 k (sym (ltb_from_iff test) ∙ none)
