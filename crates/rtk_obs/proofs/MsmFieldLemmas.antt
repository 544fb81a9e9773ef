-- The fields of an MSM: their widths, its cell mask, and the ranges of the values of its cells.
use Rattle.std.proofs.Common.{◌≡◌, ℕ, zero, suc, ◌*◌, ◌^◌, ◌<◌, [], ◌∷◌, ◌++◌, List, get_or, Some, None, refl, arith, nat_eq, true, false, Bool, cond, max, min, subst}
use Rattle.std.specs.Prelude.{IfSome}
use Rattle.std.specs.List.{All, AllByRecursion}
use Rattle.std.proofs.lemmas.List.Elements.{All-from_recursion, All-nil}
use Rattle.std.proofs.lemmas.Bool.Decides.{nat_tests}
use Rattle.rtk_message.specs.Fields.{Field, FieldsFit}
use Rattle.rtk_message.specs.FieldColumns.{numbers, integers, flags}
use Rattle.rtk_message.specs.Msm1074.{IsValid, signal_count, mask_table, column_table}
use Rattle.rtk_message.specs.MsmForm.{form_of, satellite_table, cell_table}
use Rattle.rtk_message.specs.MsmForm.{IsValid as IsValidMsm, mask_table as msm_mask_table, column_table as msm_column_table}
use Rattle.rtk_message.specs.declared.msm1074.MsmHeader.{MsmHeader}
use Rattle.rtk_message.specs.declared.msm1074.Msm1074.{Msm1074}
use Rattle.rtk_message.specs.declared.msm.Msm.{Msm}
use Rattle.rtk_message.specs.declared.msm_kind.MsmKind.{MsmKind}
use Rattle.rtk_message.specs.declared.msm_kind.MsmKind.TheVariants.{Msm4, Msm5, Msm6, Msm7}
use Rattle.rtk_message.specs.declared.system.System.{System}
use Rattle.rtk_message.specs.declared.system.System.TheVariants.{Gps, Glonass, Galileo, Beidou, Qzss, Sbas, Navic}
use Rattle.rtk_message.proofs.PublicLaws.{fit-parts}
use Rattle.rtk_obs.specs.declared.code.Band.{Band}
use Rattle.rtk_obs.specs.declared.cell.Cell.{Cell}
use Rattle.rtk_obs.specs.declared.cell.CellEntry.{CellEntry}
use Rattle.rtk_obs.specs.Cell.{IsStrength, IsInRange}
use Rattle.rtk_obs.specs.Code.{band_of}
use Rattle.rtk_obs.specs.Rounding.{rounded_magnitude}
use Rattle.rtk_obs.specs.Scaling.{strength_of, strength_of_sixteenths}
use Rattle.rtk_obs.specs.MsmCells.{msm_entries, cell_of_1074, cells_of_1074, has_extended_resolution, cell_of_msm, if_gps, cells_of_msm}
use Rattle.rtk_obs.specs.Steps.MsmRows.{IsCellMask}
use Rattle.rtk_obs.proofs.MsmLemmas.{all-msm_entries}

-- ---- widths

fits_right : (fs gs : List Field) → FieldsFit (fs ++ gs) → FieldsFit gs
fits_right fs gs h = (fit-parts fs gs h).1

fits_left : (fs gs : List Field) → FieldsFit (fs ++ gs) → FieldsFit fs
fits_left fs gs h = (fit-parts fs gs h).0

numbers_fit : (w : ℕ) (ns : List ℕ) → FieldsFit (numbers w ns) → AllByRecursion (λ n. n < 2 ^ w) ns
numbers_fit w [] h = tt
numbers_fit w (n ∷ ns) h = (h.0, numbers_fit w ns h.1)

pub below_at : (b : ℕ) → 0 < b → (ns : List ℕ) (k : ℕ) → AllByRecursion (λ n. n < b) ns → get_or ns k 0 < b
below_at b some [] k a = some
below_at b some (n ∷ ns) zero a = a.0
below_at b some (n ∷ ns) (suc k) a = below_at b some ns k a.1

-- ---- 1074

after_header : (m : Msm1074) → IsValid m → FieldsFit (mask_table m ++ column_table m)
after_header m h = h.fields_fit.1.1.1.1.1.1.1.1.1.1.1

pub is_cell_mask-1074 : (m : Msm1074) → IsValid m → IsCellMask m.header m.cell_mask
is_cell_mask-1074 m h = record {
  satellites = h.fields_fit.1.1.1.1.1.1.1.1.1.0;
  signals = h.fields_fit.1.1.1.1.1.1.1.1.1.1.0;
  rows = h.lengths.cell_mask;
  fit = numbers_fit (signal_count m.header) m.cell_mask (fits_left (mask_table m) (column_table m) (after_header m h));
  few = h.mask_bits;
}

columns_fit : (m : Msm1074) → IsValid m → FieldsFit (column_table m)
columns_fit m h = fits_right (mask_table m) (column_table m) (after_header m h)

locks_on : (m : Msm1074) → IsValid m → FieldsFit (numbers 4 m.lock_indicator ++ (flags m.half_cycle ++ numbers 6 m.cnr))
locks_on m h =
    fits_right (integers 22 m.fine_phase) (numbers 4 m.lock_indicator ++ (flags m.half_cycle ++ numbers 6 m.cnr))
    (fits_right (integers 15 m.fine_range) (integers 22 m.fine_phase ++ (numbers 4 m.lock_indicator ++ (flags m.half_cycle ++ numbers 6 m.cnr)))
    (fits_right (numbers 10 m.rough_fraction) (integers 15 m.fine_range ++ (integers 22 m.fine_phase ++ (numbers 4 m.lock_indicator ++ (flags m.half_cycle ++ numbers 6 m.cnr))))
    (fits_right (numbers 8 m.rough_ms) (numbers 10 m.rough_fraction ++ (integers 15 m.fine_range ++ (integers 22 m.fine_phase ++ (numbers 4 m.lock_indicator ++ (flags m.half_cycle ++ numbers 6 m.cnr)))))
    (columns_fit m h))))

pub locks_fit : (m : Msm1074) → IsValid m → All (λ n. n < 16) m.lock_indicator
locks_fit m h = All-from_recursion (λ (n : ℕ). n < 16) m.lock_indicator (numbers_fit 4 m.lock_indicator (fits_left (numbers 4 m.lock_indicator) (flags m.half_cycle ++ numbers 6 m.cnr) (locks_on m h)))

cnr_fits : (m : Msm1074) → IsValid m → AllByRecursion (λ n. n < 64) m.cnr
cnr_fits m h = numbers_fit 6 m.cnr (fits_right (flags m.half_cycle) (numbers 6 m.cnr) (fits_right (numbers 4 m.lock_indicator) (flags m.half_cycle ++ numbers 6 m.cnr) (locks_on m h)))

-- ---- 1075, 1076 and 1077

msm_after_header : (m : Msm) → IsValidMsm m → FieldsFit (msm_mask_table m ++ msm_column_table m)
msm_after_header m h = h.form.fields_fit.1.1.1.1.1.1.1.1.1.1.1

pub is_cell_mask-msm : (m : Msm) → IsValidMsm m → IsCellMask m.header m.cell_mask
is_cell_mask-msm m h = record {
  satellites = h.form.fields_fit.1.1.1.1.1.1.1.1.1.0;
  signals = h.form.fields_fit.1.1.1.1.1.1.1.1.1.1.0;
  rows = h.form.lengths.cell_mask;
  fit = numbers_fit (signal_count m.header) m.cell_mask (fits_left (msm_mask_table m) (msm_column_table m) (msm_after_header m h));
  few = h.form.mask_bits;
}

module _ (m : Msm) (h : FieldsFit (cell_table (form_of m.kind) m)) where
  msm_locks_on : FieldsFit (numbers (form_of m.kind).lock_indicator m.lock_indicator ++ (flags m.half_cycle ++ (numbers (form_of m.kind).cnr m.cnr ++ integers 15 m.fine_rate)))
  msm_locks_on =
      fits_right (integers (form_of m.kind).fine_phase m.fine_phase) (numbers (form_of m.kind).lock_indicator m.lock_indicator ++ (flags m.half_cycle ++ (numbers (form_of m.kind).cnr m.cnr ++ integers 15 m.fine_rate)))
      (fits_right (integers (form_of m.kind).fine_range m.fine_range) (integers (form_of m.kind).fine_phase m.fine_phase ++ (numbers (form_of m.kind).lock_indicator m.lock_indicator ++ (flags m.half_cycle ++ (numbers (form_of m.kind).cnr m.cnr ++ integers 15 m.fine_rate)))) h)

  locks_of_kind : AllByRecursion (λ n. n < 2 ^ (form_of m.kind).lock_indicator) m.lock_indicator
  locks_of_kind = numbers_fit (form_of m.kind).lock_indicator m.lock_indicator (fits_left (numbers (form_of m.kind).lock_indicator m.lock_indicator) (flags m.half_cycle ++ (numbers (form_of m.kind).cnr m.cnr ++ integers 15 m.fine_rate)) msm_locks_on)

  cnr_of_kind : AllByRecursion (λ n. n < 2 ^ (form_of m.kind).cnr) m.cnr
  cnr_of_kind =
      numbers_fit (form_of m.kind).cnr m.cnr
      (fits_left (numbers (form_of m.kind).cnr m.cnr) (integers 15 m.fine_rate)
      (fits_right (flags m.half_cycle) (numbers (form_of m.kind).cnr m.cnr ++ integers 15 m.fine_rate)
      (fits_right (numbers (form_of m.kind).lock_indicator m.lock_indicator) (flags m.half_cycle ++ (numbers (form_of m.kind).cnr m.cnr ++ integers 15 m.fine_rate)) msm_locks_on)))

cell_columns_fit : (m : Msm) → IsValidMsm m → FieldsFit (cell_table (form_of m.kind) m)
cell_columns_fit m h = fits_right (satellite_table m) (cell_table (form_of m.kind) m) (fits_right (msm_mask_table m) (msm_column_table m) (msm_after_header m h))

lock_width : (k : MsmKind) → has_extended_resolution k ≡ false → (form_of k).lock_indicator ≡ 4
lock_width Msm4 e = refl
lock_width Msm5 e = refl
lock_width Msm6 e = cc
lock_width Msm7 e = cc

cnr_width : (k : MsmKind) → has_extended_resolution k ≡ false → (form_of k).cnr ≡ 6
cnr_width Msm4 e = refl
cnr_width Msm5 e = refl
cnr_width Msm6 e = cc
cnr_width Msm7 e = cc

locks_fit-msm : (m : Msm) → IsValidMsm m → has_extended_resolution m.kind ≡ false → AllByRecursion (λ n. n < 16) m.lock_indicator
locks_fit-msm m h e = subst (λ (w : ℕ). AllByRecursion (λ n. n < 2 ^ w) m.lock_indicator) (lock_width m.kind e) (locks_of_kind m (cell_columns_fit m h))

cnr_fits-msm : (m : Msm) → IsValidMsm m → has_extended_resolution m.kind ≡ false → AllByRecursion (λ n. n < 64) m.cnr
cnr_fits-msm m h e = subst (λ (w : ℕ). AllByRecursion (λ n. n < 2 ^ w) m.cnr) (cnr_width m.kind e) (cnr_of_kind m (cell_columns_fit m h))

pub lock_at : (m : Msm) → IsValidMsm m → has_extended_resolution m.kind ≡ false → (k : ℕ) → get_or m.lock_indicator k 0 < 16
lock_at m h e k = below_at 16 (omega arith) m.lock_indicator k (locks_fit-msm m h e)

pub cnr_at : (m : Msm) → IsValidMsm m → has_extended_resolution m.kind ≡ false → (k : ℕ) → get_or m.cnr k 0 < 64
cnr_at m h e k = below_at 64 (omega arith) m.cnr k (cnr_fits-msm m h e)

-- ---- ranges

strength_if : (b : Bool) (n : ℕ) → nat_eq n 0 ≡ b → n < 64 → IfSome (cond b None (Some (1000 * n))) IsStrength
strength_if true n e h = tt
strength_if false n e h = record { least = grind (arith, nat_tests); greatest = omega arith; step = omega arith }

strength_in_range : (n : ℕ) → n < 64 → IfSome (strength_of 1000 n) IsStrength
strength_in_range n h = strength_if (nat_eq n 0) n refl h

sixteenths_if : (b : Bool) (n : ℕ) → IfSome (cond b None (Some (250 * min (max (rounded_magnitude n 4) 1) 255))) IsStrength
sixteenths_if true n = tt
sixteenths_if false n = record { least = omega arith; greatest = omega arith; step = omega arith }

pub kind_if : (b : Bool) (n : ℕ) → (b ≡ false → n < 64) → IfSome (cond b (strength_of_sixteenths n) (strength_of 1000 n)) IsStrength
kind_if true n h = sixteenths_if (nat_eq n 0) n
kind_if false n h = strength_in_range n (h refl)

-- the entries are in range if the strengths of the cells are
entries_in_range : (h : MsmHeader) (cell_of : ℕ → ℕ → Band → Cell) → ((k row : ℕ) (band : Band) → IfSome (cell_of k row band).strength_millidbhz IsStrength)
    → (rows : List ℕ) → All IsInRange (msm_entries h rows cell_of)
entries_in_range h cell_of strengths rows =
    All-from_recursion IsInRange (msm_entries h rows cell_of)
    (all-msm_entries h cell_of IsInRange (λ k row satellite code is. record { satellite = is; strength = strengths k row (band_of code) }) rows)

pub cells_in_range-1074 : (m : Msm1074) → IsValid m → All IsInRange (cells_of_1074 m)
cells_in_range-1074 m h =
    entries_in_range m.header (cell_of_1074 m) (λ k row band. strength_in_range (get_or m.cnr k 0) (below_at 64 (omega arith) m.cnr k (cnr_fits m h))) m.cell_mask

pub gps_cells_in_range : (m : Msm) → IsValidMsm m → All IsInRange (msm_entries m.header m.cell_mask (cell_of_msm m))
gps_cells_in_range m h =
    entries_in_range m.header (cell_of_msm m)
    (λ k row band. kind_if (has_extended_resolution m.kind) (get_or m.cnr k 0) (λ e. cnr_at m h e k)) m.cell_mask

-- the cells of GPS, or none
pub gps_or_none : (P : List CellEntry → Type 0) (s : System) (cells : List CellEntry) → P cells → P [] → P (if_gps s cells)
gps_or_none P Gps cells some none = some
gps_or_none P Glonass cells some none = none
gps_or_none P Galileo cells some none = none
gps_or_none P Beidou cells some none = none
gps_or_none P Qzss cells some none = none
gps_or_none P Sbas cells some none = none
gps_or_none P Navic cells some none = none

pub cells_in_range-msm : (m : Msm) → IsValidMsm m → All IsInRange (cells_of_msm m)
cells_in_range-msm m h = gps_or_none (All IsInRange) m.system _ (gps_cells_in_range m h) (All-nil IsInRange)
