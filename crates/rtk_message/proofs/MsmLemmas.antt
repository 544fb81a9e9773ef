-- Multiple signal messages: the widths of a kind, the first fault, the columns of a message that has
-- its form, and that bits begin with at most one message of a type. A 1074 has the form of MSM4.
use Rattle.std.proofs.Common.{◌≡◌, ℕ, ℤ, Bool, true, false, List, [], ◌++◌, length, Some, None, refl, sym, ap, subst, ◌∙◌, ◌+◌, ◌*◌, ◌/◌, ◌%◌, ◌^◌, ◌<◌, ◌≤◌, ltb, inl, inr, arith, append_assoc, length-append, sum_by, count_ones}
use Rattle.std.proofs.lemmas.Bool.{le-ltb, lt-ltb, ltb-true, and_parts}
use Rattle.std.proofs.lemmas.Bool.Decides.{leb_tells}
use Rattle.std.proofs.lemmas.List.{append-nil}
use Rattle.std.specs.Prelude.{IsTrue, not, nat_lt, nat_le, if◌then◌else◌}
use Rattle.rtk_message.specs.declared.any_fault.AnyFault.TheVariants.{Short, EpochRange, TooManyCells}
use Rattle.rtk_message.specs.declared.fault.DecodeFault.TheVariants as fault
use Rattle.rtk_message.specs.declared.msm_kind.MsmKind.{MsmKind}
use Rattle.rtk_message.specs.declared.msm_kind.MsmKind.TheVariants.{Msm4, Msm5, Msm6, Msm7}
use Rattle.rtk_message.specs.declared.msm_type.MsmType.{MsmType}
use Rattle.rtk_message.specs.declared.system.System.{System}
use Rattle.rtk_message.specs.declared.system.System.TheVariants.{Gps, Glonass, Galileo, Beidou, Qzss, Sbas, Navic}
use Rattle.rtk_message.specs.declared.msm1074.MsmHeader.{MsmHeader}
use Rattle.rtk_message.specs.declared.msm1074.Msm1074.{Msm1074}
use Rattle.rtk_message.specs.declared.msm.Msm.{Msm}
use Rattle.rtk_message.specs.Fields.{week_ms, longest_day_ms, tow_in, Field, bits_of_fields, FieldsFit, TakesAll}
use Rattle.rtk_message.specs.FieldLaws.{total, length-bits_of_fields, bits_of_fields-append, fit-append, fit-parts}
use Rattle.rtk_message.specs.FieldColumns.{numbers, integers, flags}
use Rattle.rtk_message.specs.ColumnLaws.{total-numbers, total-integers, total-flags, peel, peel_numbers, peel_integers, peel_flags, last_integers}
use Rattle.rtk_message.specs.Msm1074 as msm1074
use Rattle.rtk_message.specs.Msm1074.{header_table, satellite_count, signal_count, satellite_count_in, mask_bits_in, cell_count_in}
use Rattle.rtk_message.specs.Msm1074Laws.{header_says, cells_says, split, same_header}
use Rattle.rtk_message.specs.MsmForm.{form_of, if_rates, mask_table, satellite_table, cell_table, column_table, table, cell_count, HasLengths, HasForm, msm_of_1074, satellite_bits, cell_bits, first_fault, type_of}
use Rattle.rtk_message.specs.Systems.{gps, number_of_type, tells_time}
use Rattle.rtk_message.specs.AnyDecoded.{if_any_fault_of}
use Rattle.rtk_message.specs.Steps.MsmColumns.{HasWidths, bits_of_cells, HasSatellites, HasCells, ChangesCells, SatellitesFit, CellsFit}
use Rattle.rtk_message.proofs.ColumnLemmas.{flags-fit}
use Rattle.rtk_message.proofs.FieldLemmas.{took_both}

-- ---- the widths of a kind

-- each width is one that a column of its type can have
pub widths : (k : MsmKind) → HasWidths (form_of k)
widths Msm4 = record { fine_range = (omega arith, omega arith); fine_phase = (omega arith, omega arith); lock_indicator = (omega arith, omega arith); cnr = (omega arith, omega arith) }
widths Msm5 = record { fine_range = (omega arith, omega arith); fine_phase = (omega arith, omega arith); lock_indicator = (omega arith, omega arith); cnr = (omega arith, omega arith) }
widths Msm6 = record { fine_range = (omega arith, omega arith); fine_phase = (omega arith, omega arith); lock_indicator = (omega arith, omega arith); cnr = (omega arith, omega arith) }
widths Msm7 = record { fine_range = (omega arith, omega arith); fine_phase = (omega arith, omega arith); lock_indicator = (omega arith, omega arith); cnr = (omega arith, omega arith) }

-- the columns of range rates are no longer than the others
pub if_rates-le : (k : MsmKind) (n : ℕ) → if_rates k n ≤ n
if_rates-le Msm4 n = omega arith
if_rates-le Msm5 n = omega arith
if_rates-le Msm6 n = omega arith
if_rates-le Msm7 n = omega arith

-- the bits of n satellites, column by column
pub satellite_bits-columns : (k : MsmKind) (n : ℕ) → satellite_bits k * n ≡ 8 * n + (4 * if_rates k n + (10 * n + 14 * if_rates k n))
satellite_bits-columns Msm4 n = omega arith
satellite_bits-columns Msm5 n = omega arith
satellite_bits-columns Msm6 n = omega arith
satellite_bits-columns Msm7 n = omega arith

-- the bits of n cells, column by column
pub cell_bits-columns : (k : MsmKind) (n : ℕ) → cell_bits k * n ≡ bits_of_cells (form_of k) n (if_rates k n)
cell_bits-columns Msm4 n = omega arith
cell_bits-columns Msm5 n = omega arith
cell_bits-columns Msm6 n = omega arith
cell_bits-columns Msm7 n = omega arith

-- ---- lengths

part : (fs gs : List Field) (a b : ℕ) → total fs ≡ a → length (bits_of_fields gs) ≡ b → length (bits_of_fields (fs ++ gs)) ≡ a + b
part fs gs a b p q = rw (bits_of_fields-append fs gs, length-append (bits_of_fields fs) (bits_of_fields gs), length-bits_of_fields fs, p, q) refl

sized_numbers : (w : ℕ) (ns : List ℕ) (n : ℕ) → length ns ≡ n → total (numbers w ns) ≡ w * n
sized_numbers w ns n e = total-numbers w ns ∙ ap (λ (x : ℕ). w * x) e

sized_integers : (w : ℕ) (zs : List ℤ) (n : ℕ) → length zs ≡ n → total (integers w zs) ≡ w * n
sized_integers w zs n e = total-integers w zs ∙ ap (λ (x : ℕ). w * x) e

sized_flags : (bs : List Bool) (n : ℕ) → length bs ≡ n → total (flags bs) ≡ 1 * n
sized_flags bs n e = total-flags bs ∙ (e ∙ omega arith)

length-satellite_table : (k : MsmKind) (n : ℕ) (m : Msm) → HasSatellites n (if_rates k n) m → length (bits_of_fields (satellite_table m)) ≡ satellite_bits k * n
length-satellite_table k n m l =
    part (numbers 8 m.rough_ms) _ _ _ (sized_numbers 8 m.rough_ms n l.rough_ms)
    (part (numbers 4 m.extended) _ _ _ (sized_numbers 4 m.extended (if_rates k n) l.extended)
    (part (numbers 10 m.rough_fraction) _ _ _ (sized_numbers 10 m.rough_fraction n l.rough_fraction)
    (length-bits_of_fields (integers 14 m.rough_rate) ∙ sized_integers 14 m.rough_rate (if_rates k n) l.rough_rate)))
    ∙ sym (satellite_bits-columns k n)

length-cell_table : (k : MsmKind) (n : ℕ) (m : Msm) → HasCells n (if_rates k n) m → length (bits_of_fields (cell_table (form_of k) m)) ≡ cell_bits k * n
length-cell_table k n m l =
    let f = form_of k in
    part (integers f.fine_range m.fine_range) _ _ _ (sized_integers f.fine_range m.fine_range n l.fine_range)
    (part (integers f.fine_phase m.fine_phase) _ _ _ (sized_integers f.fine_phase m.fine_phase n l.fine_phase)
    (part (numbers f.lock_indicator m.lock_indicator) _ _ _ (sized_numbers f.lock_indicator m.lock_indicator n l.lock_indicator)
    (part (flags m.half_cycle) _ _ _ (sized_flags m.half_cycle n l.half_cycle)
    (part (numbers f.cnr m.cnr) _ _ _ (sized_numbers f.cnr m.cnr n l.cnr)
    (length-bits_of_fields (integers 15 m.fine_rate) ∙ sized_integers 15 m.fine_rate (if_rates k n) l.fine_rate)))))
    ∙ sym (cell_bits-columns k n)

-- the lengths of the columns, from those of satellites and cells
pub has_lengths : (m : Msm) → length m.cell_mask ≡ satellite_count m.header → HasSatellites (satellite_count m.header) (if_rates m.kind (satellite_count m.header)) m → HasCells (cell_count m) (if_rates m.kind (cell_count m)) m → HasLengths m
has_lengths m mask s c = record {
  cell_mask = mask;
  rough_ms = s.rough_ms;
  extended = s.extended;
  rough_fraction = s.rough_fraction;
  rough_rate = s.rough_rate;
  fine_range = c.fine_range;
  fine_phase = c.fine_phase;
  lock_indicator = c.lock_indicator;
  half_cycle = c.half_cycle;
  cnr = c.cnr;
  fine_rate = c.fine_rate;
}

-- and back
pub has_satellites : (m : Msm) → HasLengths m → HasSatellites (satellite_count m.header) (if_rates m.kind (satellite_count m.header)) m
has_satellites m l = record { rough_ms = l.rough_ms; extended = l.extended; rough_fraction = l.rough_fraction; rough_rate = l.rough_rate }

pub has_cells : (m : Msm) → HasLengths m → HasCells (cell_count m) (if_rates m.kind (cell_count m)) m
has_cells m l = record { fine_range = l.fine_range; fine_phase = l.fine_phase; lock_indicator = l.lock_indicator; half_cycle = l.half_cycle; cnr = l.cnr; fine_rate = l.fine_rate }

length-column_table : (m : Msm) → HasLengths m → length (bits_of_fields (column_table m)) ≡ satellite_bits m.kind * satellite_count m.header + cell_bits m.kind * cell_count m
length-column_table m l =
    ap length (bits_of_fields-append (satellite_table m) (cell_table (form_of m.kind) m)) ∙ length-append (bits_of_fields (satellite_table m)) (bits_of_fields (cell_table (form_of m.kind) m))
    ∙ rw (length-satellite_table m.kind (satellite_count m.header) m (has_satellites m l), length-cell_table m.kind (cell_count m) m (has_cells m l)) refl

-- ---- the first fault

-- how many bits the message needs after its number
abbrev due : MsmKind → List Bool → ℕ
due k bs = 157 + mask_bits_in bs + satellite_bits k * satellite_count_in bs + cell_bits k * cell_count_in bs

pub is_out_of_week : (any_day : Bool) (t : MsmType) {h : MsmHeader} {bs rest : List Bool} → TakesAll (header_table h) bs rest → tells_time any_day t.system h.tow ≡ false → first_fault any_day t bs ≡ Some (EpochRange (number_of_type t))
is_out_of_week any_day t {h = h} {bs = bs} took late =
    let says = header_says took in
    let long : ltb (length bs) 157 ≡ false = le-ltb (length bs) 157 (omega (arith, says.len)) in
    let when : not (tells_time any_day t.system (tow_in bs)) ≡ true = ap not (ap (tells_time any_day t.system) says.tow_is ∙ late) in
    rw (long, when) refl

pub is_many : (any_day : Bool) (t : MsmType) {h : MsmHeader} {bs rest : List Bool} → TakesAll (header_table h) bs rest → tells_time any_day t.system h.tow ≡ true → 64 < satellite_count h * signal_count h → first_fault any_day t bs ≡ Some (TooManyCells (number_of_type t))
is_many any_day t {h = h} {bs = bs} took time many =
    let says = header_says took in
    let long : ltb (length bs) 157 ≡ false = le-ltb (length bs) 157 (omega (arith, says.len)) in
    let when : not (tells_time any_day t.system (tow_in bs)) ≡ false = ap not (ap (tells_time any_day t.system) says.tow_is ∙ time) in
    let big : ltb 64 (mask_bits_in bs) ≡ true = lt-ltb 64 (mask_bits_in bs) (omega (arith, says.mask_bits_is, many)) in
    rw (long, when, big) refl

is_cut : (any_day : Bool) (t : MsmType) {h : MsmHeader} {bs rest : List Bool} → TakesAll (header_table h) bs rest → tells_time any_day t.system h.tow ≡ true → satellite_count h * signal_count h ≤ 64 → length bs < due t.kind bs → first_fault any_day t bs ≡ Some (Short (number_of_type t))
is_cut any_day t {h = h} {bs = bs} took time few short =
    let says = header_says took in
    let long : ltb (length bs) 157 ≡ false = le-ltb (length bs) 157 (omega (arith, says.len)) in
    let when : not (tells_time any_day t.system (tow_in bs)) ≡ false = ap not (ap (tells_time any_day t.system) says.tow_is ∙ time) in
    let big : ltb 64 (mask_bits_in bs) ≡ false = le-ltb 64 (mask_bits_in bs) (omega (arith, says.mask_bits_is, few)) in
    let cut : ltb (length bs) (due t.kind bs) ≡ true = lt-ltb (length bs) (due t.kind bs) short in
    rw (long, when, big, cut) refl

-- fewer bits than the cell mask
pub is_cut_mask : (any_day : Bool) (t : MsmType) {h : MsmHeader} {bs rest : List Bool} → TakesAll (header_table h) bs rest → tells_time any_day t.system h.tow ≡ true → satellite_count h * signal_count h ≤ 64 → length rest < satellite_count h * signal_count h → first_fault any_day t bs ≡ Some (Short (number_of_type t))
is_cut_mask any_day t {h = h} {bs = bs} {rest = rest} took time few short =
    let says = header_says took in
    is_cut any_day t took time few (mask_short (length bs) (length rest) (mask_bits_in bs) (satellite_count h * signal_count h) (satellite_bits t.kind * satellite_count_in bs) (cell_bits t.kind * cell_count_in bs) says.len says.mask_bits_is short) where
      mask_short : (all left bits mask satellites cells : ℕ) → all ≡ 157 + left → bits ≡ mask → left < mask → all < 157 + bits + satellites + cells
      mask_short all left bits mask satellites cells len same short = omega (arith, len, same, short)

-- the bits that are due, in terms of the header and the rows of the cell mask
due-is : (k : MsmKind) {h : MsmHeader} {bs rest after : List Bool} (ns : List ℕ) → TakesAll (header_table h) bs rest → TakesAll (numbers (signal_count h) ns) rest after → length ns ≡ satellite_count h
    → due k bs ≡ 157 + satellite_count h * signal_count h + satellite_bits k * satellite_count h + cell_bits k * sum_by count_ones ns
due-is k {h = h} {bs = bs} ns took mask len =
    let says = header_says took in
    sums (mask_bits_in bs) (satellite_count_in bs) (cell_count_in bs) (satellite_count h * signal_count h) (satellite_count h) (sum_by count_ones ns) (satellite_bits k) (cell_bits k) says.mask_bits_is says.satellites_is (cells_says ns took mask len) where
      sums : (a b c x y z s t : ℕ) → a ≡ x → b ≡ y → c ≡ z → 157 + a + s * b + t * c ≡ 157 + x + s * y + t * z
      sums a b c x y z s t p q r = rw (p, q, r) refl

pub is_cut_rest : (any_day : Bool) (t : MsmType) {h : MsmHeader} {bs rest after : List Bool} (ns : List ℕ) → TakesAll (header_table h) bs rest → TakesAll (numbers (signal_count h) ns) rest after → length ns ≡ satellite_count h → tells_time any_day t.system h.tow ≡ true → satellite_count h * signal_count h ≤ 64
    → length rest ≡ signal_count h * satellite_count h + length after → length after < satellite_bits t.kind * satellite_count h + cell_bits t.kind * sum_by count_ones ns → first_fault any_day t bs ≡ Some (Short (number_of_type t))
is_cut_rest any_day t {h = h} {bs = bs} {rest = rest} {after = after} ns took mask len time few size short =
    let says = header_says took in
    let all = due-is t.kind ns took mask len in
    is_cut any_day t took time few (rest_short (length bs) (length rest) (length after) (satellite_count h * signal_count h) (due t.kind bs) (satellite_bits t.kind * satellite_count h) (cell_bits t.kind * sum_by count_ones ns) says.len (omega (arith, size)) all short) where
      rest_short : (all left after mask due satellites cells : ℕ) → all ≡ 157 + left → left ≡ mask + after → due ≡ 157 + mask + satellites + cells → after < satellites + cells → all < due
      rest_short all left after mask due satellites cells len size sum short = omega (arith, len, size, sum, short)

is_whole : (any_day : Bool) (t : MsmType) {h : MsmHeader} {bs rest : List Bool} → TakesAll (header_table h) bs rest → tells_time any_day t.system h.tow ≡ true → satellite_count h * signal_count h ≤ 64 → due t.kind bs ≤ length bs → first_fault any_day t bs ≡ None
is_whole any_day t {h = h} {bs = bs} took time few enough =
    let says = header_says took in
    let long : ltb (length bs) 157 ≡ false = le-ltb (length bs) 157 (omega (arith, says.len)) in
    let when : not (tells_time any_day t.system (tow_in bs)) ≡ false = ap not (ap (tells_time any_day t.system) says.tow_is ∙ time) in
    let big : ltb 64 (mask_bits_in bs) ≡ false = le-ltb 64 (mask_bits_in bs) (omega (arith, says.mask_bits_is, few)) in
    let enough_bits : ltb (length bs) (due t.kind bs) ≡ false = le-ltb (length bs) (due t.kind bs) enough in
    rw (long, when, big, enough_bits) refl

-- bits that begin with a message have no fault
pub is_accepted : (any_day : Bool) (m : Msm) (rest : List Bool) → HasForm m → tells_time any_day m.system m.header.tow ≡ true → first_fault any_day (type_of m) (bits_of_fields (table m) ++ rest) ≡ None
is_accepted any_day m rest valid time =
    let h = m.header in
    let bs = bits_of_fields (table m) ++ rest in
    let after_header = mask_table m ++ column_table m in
    let head : TakesAll (header_table h) bs (bits_of_fields after_header ++ rest) = split (header_table h) after_header bs rest valid.fields_fit refl in
    let mask : TakesAll (mask_table m) (bits_of_fields after_header ++ rest) (bits_of_fields (column_table m) ++ rest) = split (mask_table m) (column_table m) (bits_of_fields after_header ++ rest) rest (fit-parts (header_table h) after_header valid.fields_fit).1 refl in
    let says = header_says head in
    let all = due-is m.kind m.cell_mask head mask valid.lengths.cell_mask in
    let l1 : length (bits_of_fields after_header ++ rest) ≡ signal_count h * satellite_count h + length (bits_of_fields (column_table m) ++ rest) =
    ap length mask.is ∙ length-append (bits_of_fields (mask_table m)) (bits_of_fields (column_table m) ++ rest) ∙ ap (λ (k : ℕ). k + length (bits_of_fields (column_table m) ++ rest)) (length-bits_of_fields (mask_table m) ∙ total-numbers (signal_count h) m.cell_mask ∙ ap (λ (k : ℕ). signal_count h * k) valid.lengths.cell_mask) in
    is_whole any_day (type_of m) head time valid.mask_bits (whole (length bs) (length (bits_of_fields after_header ++ rest)) (length (bits_of_fields (column_table m) ++ rest)) (length rest) (satellite_count h * signal_count h) (due m.kind bs) (satellite_bits m.kind * satellite_count h) (cell_bits m.kind * cell_count m)
    says.len (omega (arith, l1)) all (length-append (bits_of_fields (column_table m)) rest ∙ ap (λ (k : ℕ). k + length rest) (length-column_table m valid.lengths))) where
      whole : (all left after rest mask due satellites cells : ℕ) → all ≡ 157 + left → left ≡ mask + after → due ≡ 157 + mask + satellites + cells → after ≡ satellites + cells + rest → due ≤ all
      whole all left after rest mask due satellites cells len size sum columns = omega (arith, len, size, sum, columns)

-- ---- fields that fit

pub satellites_fit : (m : Msm) → FieldsFit (table m) → SatellitesFit m
satellites_fit m p =
    let a = fit-parts (header_table m.header) (mask_table m ++ column_table m) p in
    let b = fit-parts (mask_table m) (column_table m) a.1 in
    let c = fit-parts (satellite_table m) (cell_table (form_of m.kind) m) b.1 in
    let d = fit-parts (numbers 8 m.rough_ms) _ c.0 in
    let e = fit-parts (numbers 4 m.extended) _ d.1 in
    let f = fit-parts (numbers 10 m.rough_fraction) _ e.1 in
    record { cell_mask = b.0; rough_ms = d.0; extended = e.0; rough_fraction = f.0; rough_rate = f.1 }

pub cells_fit : (m : Msm) → FieldsFit (table m) → CellsFit (form_of m.kind) m
cells_fit m p =
    let k = form_of m.kind in
    let a = fit-parts (header_table m.header) (mask_table m ++ column_table m) p in
    let b = fit-parts (mask_table m) (column_table m) a.1 in
    let c = fit-parts (satellite_table m) (cell_table k m) b.1 in
    let d = fit-parts (integers k.fine_range m.fine_range) _ c.1 in
    let e = fit-parts (integers k.fine_phase m.fine_phase) _ d.1 in
    let f = fit-parts (numbers k.lock_indicator m.lock_indicator) _ e.1 in
    let g = fit-parts (flags m.half_cycle) _ f.1 in
    let h = fit-parts (numbers k.cnr m.cnr) _ g.1 in
    record { fine_range = d.0; fine_phase = e.0; lock_indicator = f.0; cnr = h.0; fine_rate = h.1 }

pub all_fit : (m : Msm) → FieldsFit (header_table m.header) → SatellitesFit m → CellsFit (form_of m.kind) m → FieldsFit (table m)
all_fit m head s c =
    let k = form_of m.kind in
    let satellites = fit-append (numbers 8 m.rough_ms) _ s.rough_ms (fit-append (numbers 4 m.extended) _ s.extended (fit-append (numbers 10 m.rough_fraction) (integers 14 m.rough_rate) s.rough_fraction s.rough_rate)) in
    let cells =
    fit-append (integers k.fine_range m.fine_range) _ c.fine_range
    (fit-append (integers k.fine_phase m.fine_phase) _ c.fine_phase
    (fit-append (numbers k.lock_indicator m.lock_indicator) _ c.lock_indicator
    (fit-append (flags m.half_cycle) _ (flags-fit m.half_cycle)
    (fit-append (numbers k.cnr m.cnr) (integers 15 m.fine_rate) c.cnr c.fine_rate)))) in
    fit-append (header_table m.header) (mask_table m ++ column_table m) head
    (fit-append (mask_table m) (column_table m) s.cell_mask (fit-append (satellite_table m) (cell_table k m) satellites cells))

pub has_form : (m : Msm) → FieldsFit (header_table m.header) → IsTrue (tells_time true m.system m.header.tow) → satellite_count m.header * signal_count m.header ≤ 64 → HasLengths m → SatellitesFit m → CellsFit (form_of m.kind) m → HasForm m
has_form m head time few lengths s c = record { fields_fit = all_fit m head s c; time = time; mask_bits = few; lengths = lengths }

-- ---- what was read

-- a clock that tells a time tells it if any day is taken
some_day : (any_day : Bool) (s : System) (c : ℕ) → tells_time any_day s c ≡ true → tells_time true s c ≡ true
some_day true s c h = h
some_day false Gps c h = h
some_day false Glonass c h = (and_parts (nat_lt (c / 2 ^ 27) 7) (nat_lt (c % 2 ^ 27) longest_day_ms) h).1
some_day false Galileo c h = h
some_day false Beidou c h = h
some_day false Qzss c h = h
some_day false Sbas c h = h
some_day false Navic c h = h

-- the table of a message by its parts
abbrev whole : MsmHeader → List ℕ → List Field → List Field → List Field
whole h ns satellites cells = header_table h ++ (numbers (signal_count h) ns ++ (satellites ++ cells))

-- the header, the cell mask, the columns of the satellites and those of the cells are read one after
-- another
pub all_read : (any_day : Bool) {t : MsmType} {h : MsmHeader} {ns : List ℕ} {mid new : Msm} {b0 b1 b2 b3 b4 : List Bool} → mid.system ≡ t.system → mid.kind ≡ t.kind → mid.header ≡ h → mid.cell_mask ≡ ns → ChangesCells mid new
    → TakesAll (header_table h) b0 b1 → TakesAll (numbers (signal_count h) ns) b1 b2 → TakesAll (satellite_table mid) b2 b3 → TakesAll (cell_table (form_of t.kind) new) b3 b4
    → tells_time any_day t.system h.tow ≡ true → satellite_count h * signal_count h ≤ 64 → length ns ≡ satellite_count h → HasSatellites (satellite_count h) (if_rates t.kind (satellite_count h)) mid → HasCells (sum_by count_ones ns) (if_rates t.kind (sum_by count_ones ns)) new
    → HasForm new × (type_of new ≡ t) × TakesAll (table new) b0 b4 × IsTrue (tells_time any_day new.system new.header.tow)
all_read any_day {t = t} {h = h} {ns = ns} {mid = mid} {new = new} {b0 = b0} {b4 = b4} is_system is_kind is_header is_mask second head rows satellites cells time few len s c =
    let system : new.system ≡ t.system = ap (λ (x : Msm). x.system) second ∙ is_system in
    let kind : new.kind ≡ t.kind = ap (λ (x : Msm). x.kind) second ∙ is_kind in
    let header : new.header ≡ h = ap (λ (x : Msm). x.header) second ∙ is_header in
    let mask : new.cell_mask ≡ ns = ap (λ (x : Msm). x.cell_mask) second ∙ is_mask in
    let columns : satellite_table new ≡ satellite_table mid = ap satellite_table second in
    let path : table new ≡ whole h ns (satellite_table mid) (cell_table (form_of t.kind) new) =
    ap (λ (x : MsmHeader). whole x new.cell_mask (satellite_table new) (cell_table (form_of new.kind) new)) header
    ∙ ap (λ (x : List ℕ). whole h x (satellite_table new) (cell_table (form_of new.kind) new)) mask
    ∙ ap (λ (x : List Field). whole h ns x (cell_table (form_of new.kind) new)) columns
    ∙ ap (λ (x : MsmKind). whole h ns (satellite_table mid) (cell_table (form_of x) new)) kind in
    let taken : TakesAll (table new) b0 b4 = subst (λ (fs : List Field). TakesAll fs b0 b4) (sym path) (took_both head (took_both rows (took_both satellites cells))) in
    let sats : satellite_count h ≡ satellite_count new.header = sym (ap satellite_count header) in
    let count : sum_by count_ones ns ≡ cell_count new = sym (ap (sum_by count_ones) mask) in
    let rated_sats : if_rates t.kind (satellite_count h) ≡ if_rates new.kind (satellite_count new.header) = sym (ap (λ (x : MsmKind). if_rates x (satellite_count new.header)) kind ∙ ap (λ (x : MsmHeader). if_rates t.kind (satellite_count x)) header) in
    let rated_cells : if_rates t.kind (sum_by count_ones ns) ≡ if_rates new.kind (cell_count new) = sym (ap (λ (x : MsmKind). if_rates x (cell_count new)) kind ∙ ap (λ (x : List ℕ). if_rates t.kind (sum_by count_ones x)) mask) in
    let lengths : HasLengths new = record {
      cell_mask = ap length mask ∙ len ∙ sats;
      rough_ms = ap (λ (x : Msm). length x.rough_ms) second ∙ s.rough_ms ∙ sats;
      extended = ap (λ (x : Msm). length x.extended) second ∙ s.extended ∙ rated_sats;
      rough_fraction = ap (λ (x : Msm). length x.rough_fraction) second ∙ s.rough_fraction ∙ sats;
      rough_rate = ap (λ (x : Msm). length x.rough_rate) second ∙ s.rough_rate ∙ rated_sats;
      fine_range = c.fine_range ∙ count;
      fine_phase = c.fine_phase ∙ count;
      lock_indicator = c.lock_indicator ∙ count;
      half_cycle = c.half_cycle ∙ count;
      cnr = c.cnr ∙ count;
      fine_rate = c.fine_rate ∙ rated_cells;
    } in
    let clock : IsTrue (tells_time any_day new.system new.header.tow) =
    subst (λ (x : System). IsTrue (tells_time any_day x new.header.tow)) (sym system) (subst (λ (x : MsmHeader). IsTrue (tells_time any_day t.system x.tow)) (sym header) time) in
    let form : HasForm new = record {
      fields_fit = taken.fit;
      time = some_day any_day new.system new.header.tow clock;
      mask_bits = subst (λ (x : MsmHeader). satellite_count x * signal_count x ≤ 64) (sym header) few;
      lengths = lengths;
    } in
    let types : type_of new ≡ t = λ i. record { system = system i; kind = kind i } in
    (form, types, taken, clock)

-- ---- one reading

pub make : System → MsmKind → MsmHeader → List ℕ → List ℕ → List ℕ → List ℕ → List ℤ → List ℤ → List ℤ → List ℕ → List Bool → List ℕ → List ℤ → Msm
make system kind header cell_mask rough_ms extended rough_fraction rough_rate fine_range fine_phase lock_indicator half_cycle cnr fine_rate = record { system = system; kind = kind; header = header; cell_mask = cell_mask; rough_ms = rough_ms; extended = extended; rough_fraction = rough_fraction; rough_rate = rough_rate; fine_range = fine_range; fine_phase = fine_phase; lock_indicator = lock_indicator; half_cycle = half_cycle; cnr = cnr; fine_rate = fine_rate }

pub made : (m : Msm) → make m.system m.kind m.header m.cell_mask m.rough_ms m.extended m.rough_fraction m.rough_rate m.fine_range m.fine_phase m.lock_indicator m.half_cycle m.cnr m.fine_rate ≡ m
unfolding make
made m = refl

-- the table of a message at the widths of a kind
abbrev table_at : MsmKind → Msm → List Field
table_at k m = header_table m.header ++ (mask_table m ++ (satellite_table m ++ cell_table (form_of k) m))

-- the same, column after column
abbrev list_at : MsmKind → Msm → List Field
list_at k m = header_table m.header ++ (mask_table m ++ (numbers 8 m.rough_ms ++ (numbers 4 m.extended ++ (numbers 10 m.rough_fraction ++ (integers 14 m.rough_rate ++ cell_table (form_of k) m)))))

list_at-is : (k : MsmKind) (m : Msm) → table_at k m ≡ list_at k m
list_at-is k m =
    ap (λ (fs : List Field). header_table m.header ++ (mask_table m ++ fs))
    (append_assoc (numbers 8 m.rough_ms) _ (cell_table (form_of k) m) ∙ ap (λ (fs : List Field). numbers 8 m.rough_ms ++ fs)
    (append_assoc (numbers 4 m.extended) _ (cell_table (form_of k) m) ∙ ap (λ (fs : List Field). numbers 4 m.extended ++ fs)
    (append_assoc (numbers 10 m.rough_fraction) _ (cell_table (form_of k) m))))

pub is_unique : (m n : Msm) (a b : List Bool) → type_of m ≡ type_of n → HasForm m → HasForm n → bits_of_fields (table m) ++ a ≡ bits_of_fields (table n) ++ b → m ≡ n
is_unique m n a b types p q e =
    let systems : m.system ≡ n.system = ap (λ (x : MsmType). x.system) types in
    let kinds : m.kind ≡ n.kind = ap (λ (x : MsmType). x.kind) types in
    let l = p.lengths in
    let k = q.lengths in
    let f = form_of n.kind in
    let w = widths n.kind in
    let left : table m ≡ list_at n.kind m = ap (λ (x : MsmKind). table_at x m) kinds ∙ list_at-is n.kind m in
    let right : table n ≡ list_at n.kind n = list_at-is n.kind n in
    let s0 = peel (header_table m.header) (header_table n.header) _ _ a b (refl, (refl, (refl, (refl, (refl, (refl, (refl, (refl, (refl, tt))))))))) (subst FieldsFit left p.fields_fit) (subst FieldsFit right q.fields_fit)
    (sym (ap (λ (fs : List Field). bits_of_fields fs ++ a) left) ∙ e ∙ ap (λ (fs : List Field). bits_of_fields fs ++ b) right) in
    let header : m.header ≡ n.header = same_header m.header n.header s0.here in
    let sats : satellite_count m.header ≡ satellite_count n.header = ap satellite_count header in
    let sigs : signal_count m.header ≡ signal_count n.header = ap signal_count header in
    let s1 = peel_numbers (signal_count m.header) (signal_count n.header) m.cell_mask n.cell_mask _ _ a b sigs (l.cell_mask ∙ sats ∙ sym k.cell_mask) s0.left s0.right s0.after in
    let count : cell_count m ≡ cell_count n = ap (sum_by count_ones) s1.here in
    let rated_sats : if_rates m.kind (satellite_count m.header) ≡ if_rates n.kind (satellite_count n.header) = ap (λ (x : MsmKind). if_rates x (satellite_count m.header)) kinds ∙ ap (λ (x : ℕ). if_rates n.kind x) sats in
    let rated_cells : if_rates m.kind (cell_count m) ≡ if_rates n.kind (cell_count n) = ap (λ (x : MsmKind). if_rates x (cell_count m)) kinds ∙ ap (λ (x : ℕ). if_rates n.kind x) count in
    let s2 = peel_numbers 8 8 m.rough_ms n.rough_ms _ _ a b refl (l.rough_ms ∙ sats ∙ sym k.rough_ms) s1.left s1.right s1.after in
    let s3 = peel_numbers 4 4 m.extended n.extended _ _ a b refl (l.extended ∙ rated_sats ∙ sym k.extended) s2.left s2.right s2.after in
    let s4 = peel_numbers 10 10 m.rough_fraction n.rough_fraction _ _ a b refl (l.rough_fraction ∙ sats ∙ sym k.rough_fraction) s3.left s3.right s3.after in
    let s5 = peel_integers 14 m.rough_rate n.rough_rate _ _ a b (omega arith) (l.rough_rate ∙ rated_sats ∙ sym k.rough_rate) s4.left s4.right s4.after in
    let s6 = peel_integers f.fine_range m.fine_range n.fine_range _ _ a b w.fine_range.0 (l.fine_range ∙ count ∙ sym k.fine_range) s5.left s5.right s5.after in
    let s7 = peel_integers f.fine_phase m.fine_phase n.fine_phase _ _ a b w.fine_phase.0 (l.fine_phase ∙ count ∙ sym k.fine_phase) s6.left s6.right s6.after in
    let s8 = peel_numbers f.lock_indicator f.lock_indicator m.lock_indicator n.lock_indicator _ _ a b refl (l.lock_indicator ∙ count ∙ sym k.lock_indicator) s7.left s7.right s7.after in
    let s9 = peel_flags m.half_cycle n.half_cycle _ _ a b (l.half_cycle ∙ count ∙ sym k.half_cycle) s8.left s8.right s8.after in
    let s10 = peel_numbers f.cnr f.cnr m.cnr n.cnr _ _ a b refl (l.cnr ∙ count ∙ sym k.cnr) s9.left s9.right s9.after in
    let fine_rate = last_integers 15 m.fine_rate n.fine_rate a b (omega arith) (l.fine_rate ∙ rated_cells ∙ sym k.fine_rate) s10.left s10.right s10.after in
    let h1 = s1.here in let h2 = s2.here in let h3 = s3.here in let h4 = s4.here in let h5 = s5.here in let h6 = s6.here in let h7 = s7.here in let h8 = s8.here in let h9 = s9.here in let h10 = s10.here in
    let all : make m.system m.kind m.header m.cell_mask m.rough_ms m.extended m.rough_fraction m.rough_rate m.fine_range m.fine_phase m.lock_indicator m.half_cycle m.cnr m.fine_rate ≡ make n.system n.kind n.header n.cell_mask n.rough_ms n.extended n.rough_fraction n.rough_rate n.fine_range n.fine_phase n.lock_indicator n.half_cycle n.cnr n.fine_rate = cc in
    sym (made m) ∙ all ∙ made n

-- ---- a 1074 has the form of MSM4

pub table_of_1074 : (m : Msm1074) → msm1074.table m ≡ table (msm_of_1074 m)
table_of_1074 m =
    let cells = cell_table (form_of Msm4) (msm_of_1074 m) in
    let last : numbers 6 m.cnr ++ integers 15 [] ≡ numbers 6 m.cnr = append-nil (numbers 6 m.cnr) in
    let satellites : satellite_table (msm_of_1074 m) ++ cells ≡ numbers 8 m.rough_ms ++ (numbers 10 m.rough_fraction ++ cells) =
    append_assoc (numbers 8 m.rough_ms) (numbers 10 m.rough_fraction ++ []) cells ∙ ap (λ (fs : List Field). numbers 8 m.rough_ms ++ (fs ++ cells)) (append-nil (numbers 10 m.rough_fraction)) in
    sym (ap (λ (fs : List Field). header_table m.header ++ (msm1074.mask_table m ++ fs))
    (satellites ∙ ap (λ (fs : List Field). numbers 8 m.rough_ms ++ (numbers 10 m.rough_fraction ++ (integers 15 m.fine_range ++ (integers 22 m.fine_phase ++ (numbers 4 m.lock_indicator ++ (flags m.half_cycle ++ fs)))))) last))

pub form_of_valid_1074 : (m : Msm1074) → msm1074.IsValid m → HasForm (msm_of_1074 m)
form_of_valid_1074 m v = let l = v.lengths in record {
  fields_fit = subst FieldsFit (table_of_1074 m) v.fields_fit;
  time = lt-ltb m.header.tow week_ms v.time_in_week;
  mask_bits = v.mask_bits;
  lengths = record {
    cell_mask = l.cell_mask;
    rough_ms = l.rough_ms;
    extended = refl;
    rough_fraction = l.rough_fraction;
    rough_rate = refl;
    fine_range = l.fine_range;
    fine_phase = l.fine_phase;
    lock_indicator = l.lock_indicator;
    half_cycle = l.half_cycle;
    cnr = l.cnr;
    fine_rate = refl;
  };
}

pub valid_1074_of_form : (m : Msm1074) → HasForm (msm_of_1074 m) → msm1074.IsValid m
valid_1074_of_form m v = let l = v.lengths in record {
  fields_fit = subst FieldsFit (sym (table_of_1074 m)) v.fields_fit;
  time_in_week = ltb-true m.header.tow week_ms v.time;
  mask_bits = v.mask_bits;
  lengths = record {
    cell_mask = l.cell_mask;
    rough_ms = l.rough_ms;
    rough_fraction = l.rough_fraction;
    fine_range = l.fine_range;
    fine_phase = l.fine_phase;
    lock_indicator = l.lock_indicator;
    half_cycle = l.half_cycle;
    cnr = l.cnr;
  };
}

-- the same tests in the same order
same_order : (a b c d : Bool) → if_any_fault_of (if a then Some (fault.Short 1074) else if b then Some (fault.EpochRange 1074) else if c then Some fault.TooManyCells else if d then Some (fault.Short 1074) else None)
    ≡ (if a then Some (Short 1074) else if b then Some (EpochRange 1074) else if c then Some (TooManyCells 1074) else if d then Some (Short 1074) else None)
same_order true b c d = refl
same_order false true c d = refl
same_order false false true d = refl
same_order false false false true = refl
same_order false false false false = refl

-- a time that lies in no week is at its end or after it
late-is : (c : ℕ) → not (nat_lt c week_ms) ≡ nat_le week_ms c
late-is c = elim (leb_tells week_ms c) [ inl h ↦ rw (le-ltb c week_ms h.1, h.0) refl | inr h ↦ rw (lt-ltb c week_ms h.1, h.0) refl ]

pub fault_of_1074 : (any_day : Bool) (bs : List Bool) → if_any_fault_of (msm1074.first_fault bs) ≡ first_fault any_day (gps Msm4) bs
fault_of_1074 any_day bs = rw (late-is (tow_in bs)) (same_order _ _ _ _)
