-- The cells of the multiple signal messages of GPS (RTCM 10403.3, MSM4 to MSM7). The RINEX code of
-- each signal of Table 3.5-91 is this project's assignment.
-- Source: RTCM 10403.3, messages 1074 to 1077
use Rattle.std.specs.Prelude.{ℕ, ◌-◌, ◌==◌, ℤ, pos, negsuc, ◌+ℤ◌, Bool, true, false, List, [], ◌∷◌, length, map, slice_index, slice_index_or, Option, Some, None, if◌then◌else◌}
use Rattle.rtk_message.specs.declared.msm1074.MsmHeader.{MsmHeader}
use Rattle.rtk_message.specs.declared.msm1074.Msm1074.{Msm1074}
use Rattle.rtk_message.specs.declared.msm.Msm.{Msm}
use Rattle.rtk_message.specs.declared.system.System.{System}
use Rattle.rtk_message.specs.declared.system.System.TheVariants.{Gps, Glonass, Galileo, Beidou, Qzss, Sbas, Navic}
use Rattle.rtk_message.specs.declared.msm_kind.MsmKind.{MsmKind}
use Rattle.rtk_message.specs.declared.msm_kind.MsmKind.TheVariants.{Msm4, Msm5, Msm6, Msm7}
use Rattle.rtk_obs.specs.declared.code.Band.{Band}
use Rattle.rtk_obs.specs.declared.code.Code.{Code}
use Rattle.rtk_obs.specs.declared.code.Code.TheVariants.{G1C, G1P, G1W, G1S, G1L, G1X, G2C, G2P, G2W, G2S, G2L, G2X, G5I, G5Q, G5X}
use Rattle.rtk_obs.specs.declared.cell.CellSource.TheVariants.{Msm as SourceMsm}
use Rattle.rtk_obs.specs.declared.cell.Cell.{Cell}
use Rattle.rtk_obs.specs.declared.cell.CellEntry.{CellEntry}
use Rattle.rtk_obs.specs.Cell.{is_satellite, entry_of}
use Rattle.rtk_obs.specs.Code.{band_of, frequency_of}
use Rattle.rtk_obs.specs.LockTime.{least_lock_of_msm, least_lock_of_extended}
use Rattle.rtk_obs.specs.Mask.{set_bits, join_from}
use Rattle.rtk_obs.specs.Scaling.{unless_invalid, strength_of, strength_of_sixteenths, rough_time, range_time, range_of_time, phase_of_time, extended_phase_time, phase_of_extended_time}

-- table
-- the code of a signal identifier (DF395); others give no cell (this project's assignment)
abbrev pub code_of_signal : ℕ → Option Code
code_of_signal s =
    if s == 2 then Some G1C else if s == 3 then Some G1P else if s == 4 then Some G1W
    else if s == 8 then Some G2C else if s == 9 then Some G2P else if s == 10 then Some G2W
    else if s == 15 then Some G2S else if s == 16 then Some G2L else if s == 17 then Some G2X
    else if s == 22 then Some G5I else if s == 23 then Some G5Q else if s == 24 then Some G5X
    else if s == 30 then Some G1S else if s == 31 then Some G1L else if s == 32 then Some G1X
    else None

-- ---- which cells, by the header and the cell mask

-- formula
-- the satellites of the message, by DF394
abbrev pub satellites_of : MsmHeader → List ℕ
satellites_of h = set_bits 64 h.satellite_mask

-- formula
-- the signals of the message, by DF395
abbrev pub signals_of : MsmHeader → List ℕ
signals_of h = set_bits 32 h.signal_mask

-- which signal of which satellite a cell is: the row of the satellite in the cell mask, and the signal identifier (DF395)
pub record Slot : Type 0 where
  pub row : ℕ
  pub signal : ℕ

-- the cells of a row of the cell mask: its bit of place p is the p-th signal of the message
abbrev pub row_slots : List ℕ → ℕ → ℕ → List Slot
row_slots signals row bits = map (λ p. record { row = row; signal = slice_index signals (p - 1) }) (set_bits (length signals) bits)

-- the cells of the message, satellite by satellite (DF396)
abbrev pub slots_of : MsmHeader → List ℕ → List Slot
slots_of h cell_mask = join_from (row_slots (signals_of h)) 0 cell_mask

-- ---- their entries, by the cell at a place, of the satellite of a row, on a band (this project's rule)

-- the entry of a cell, if its signal has a code
abbrev pub coded_entry : (Band → Cell) → ℕ → Option Code → List CellEntry
coded_entry cell_on satellite None = []
coded_entry cell_on satellite (Some code) = entry_of satellite code (cell_on (band_of code)) ∷ []

-- the entry of a cell, if its satellite is one from 1 to 32 and its signal has a code
abbrev pub slot_entry : MsmHeader → (ℕ → ℕ → Band → Cell) → ℕ → Slot → List CellEntry
slot_entry h cell_of k s =
    if is_satellite (slice_index (satellites_of h) s.row) then coded_entry (cell_of k s.row) (slice_index (satellites_of h) s.row) (code_of_signal s.signal)
    else []

-- the entries in the order of the message
abbrev pub msm_entries : MsmHeader → List ℕ → (ℕ → ℕ → Band → Cell) → List CellEntry
msm_entries h cell_mask cell_of = join_from (slot_entry h cell_of) 0 (slots_of h cell_mask)

-- ---- the values of a cell

-- formula
-- the rough range of a satellite, in 2^-29 ms; DF397 255 is invalid
abbrev pub rough_of : ℕ → ℕ → Option ℤ
rough_of ms fraction = if ms == 255 then None else Some (rough_time ms fraction)

-- formula
-- the pseudorange, if the rough range and DF400 (-16384 is invalid) are valid
abbrev pub fine_range_of : ℤ → Option ℤ → Option ℤ
fine_range_of rough None = None
fine_range_of rough (Some fine) = Some (range_of_time (range_time rough fine))

-- formula
abbrev pub msm_range_of : Option ℤ → ℤ → Option ℤ
msm_range_of None field = None
msm_range_of (Some rough) field = fine_range_of rough (unless_invalid (negsuc 16_383) field)

-- formula
-- the phase of a frequency in Hz, if the rough range and DF401 (-2097152 is invalid) are valid
abbrev pub fine_phase_of : ℕ → ℤ → Option ℤ → Option ℤ
fine_phase_of f rough None = None
fine_phase_of f rough (Some fine) = Some (phase_of_time f (rough +ℤ fine))

-- formula
abbrev pub msm_phase_of : ℕ → Option ℤ → ℤ → Option ℤ
msm_phase_of f None field = None
msm_phase_of f (Some rough) field = fine_phase_of f rough (unless_invalid (negsuc 2_097_151) field)

-- formula
-- the pseudorange of extended resolution, if the rough range and DF405 (-524288 is invalid) are
-- valid
abbrev pub extended_fine_range_of : ℤ → Option ℤ → Option ℤ
extended_fine_range_of rough None = None
extended_fine_range_of rough (Some fine) = Some (range_of_time (rough +ℤ fine))

-- formula
abbrev pub extended_range_of : Option ℤ → ℤ → Option ℤ
extended_range_of None field = None
extended_range_of (Some rough) field = extended_fine_range_of rough (unless_invalid (negsuc 524_287) field)

-- formula
-- and the phase, if the rough range and DF406 (-8388608 is invalid) are valid
abbrev pub extended_fine_phase_of : ℕ → ℤ → Option ℤ → Option ℤ
extended_fine_phase_of f rough None = None
extended_fine_phase_of f rough (Some fine) = Some (phase_of_extended_time f (extended_phase_time rough fine))

-- formula
abbrev pub extended_phase_of : ℕ → Option ℤ → ℤ → Option ℤ
extended_phase_of f None field = None
extended_phase_of f (Some rough) field = extended_fine_phase_of f rough (unless_invalid (negsuc 8_388_607) field)

-- ---- the values by the kind of message

-- table
-- MSM6 and MSM7 have extended resolution: DF405 to DF408 in the place of DF400 to DF403
abbrev pub has_extended_resolution : MsmKind → Bool
has_extended_resolution Msm4 = false
has_extended_resolution Msm5 = false
has_extended_resolution Msm6 = true
has_extended_resolution Msm7 = true

abbrev pub range_of_kind : MsmKind → Option ℤ → ℤ → Option ℤ
range_of_kind kind rough field = if has_extended_resolution kind then extended_range_of rough field else msm_range_of rough field

abbrev pub phase_of_kind : MsmKind → ℕ → Option ℤ → ℤ → Option ℤ
phase_of_kind kind f rough field = if has_extended_resolution kind then extended_phase_of f rough field else msm_phase_of f rough field

-- formula
-- the phase of a frequency in Hz, if it is known
abbrev pub phase_on : MsmKind → Option ℕ → Option ℤ → ℤ → Option ℤ
phase_on kind None rough field = None
phase_on kind (Some f) rough field = phase_of_kind kind f rough field

-- formula
-- the strength: DF408, or DF403 in steps of 1 dB-Hz
abbrev pub strength_of_kind : MsmKind → ℕ → Option ℕ
strength_of_kind kind field = if has_extended_resolution kind then strength_of_sixteenths field else strength_of 1000 field

abbrev pub least_lock_of_kind : MsmKind → ℕ → ℕ
least_lock_of_kind kind indicator = if has_extended_resolution kind then least_lock_of_extended indicator else least_lock_of_msm indicator

-- ---- the cells of a message

-- the rough range of the satellite of a row, from the columns of DF397 and DF398
abbrev pub rough_at : List ℕ → List ℕ → ℕ → Option ℤ
rough_at ms fraction row = rough_of (slice_index ms row) (slice_index fraction row)

-- formula
-- the k-th cell of a 1074: DF397, DF398 and DF400 to DF403, DF420
abbrev pub cell_of_1074 : Msm1074 → ℕ → ℕ → Band → Cell
cell_of_1074 m k row band = record {
  range_mm = msm_range_of (rough_at m.rough_ms m.rough_fraction row) (slice_index_or m.fine_range k (pos 0));
  phase_millicycles = msm_phase_of (frequency_of band) (rough_at m.rough_ms m.rough_fraction row) (slice_index_or m.fine_phase k (pos 0));
  strength_millidbhz = strength_of 1000 (slice_index m.cnr k);
  lock_time_ms = least_lock_of_msm (slice_index m.lock_indicator k);
  half = slice_index_or m.half_cycle k false;
  source = SourceMsm;
  offset = None;
}

-- the cells of a 1074, in the order of the message (this project's rule)
abbrev pub cells_of_1074 : Msm1074 → List CellEntry
cells_of_1074 m = msm_entries m.header m.cell_mask (cell_of_1074 m)

-- formula
-- the k-th cell of an MSM other than 1074, on a carrier whose frequency in Hz is known or not: DF397, DF398,
-- DF400 to DF403 or DF405 to DF408, and DF420. The range rates (DF399, DF404) give no part of it, and the
-- extended satellite information alone the channel of a satellite of GLONASS (DF419).
abbrev pub cell_on : Msm → ℕ → ℕ → Option ℕ → Cell
cell_on m k row frequency = record {
  range_mm = range_of_kind m.kind (rough_at m.rough_ms m.rough_fraction row) (slice_index_or m.fine_range k (pos 0));
  phase_millicycles = phase_on m.kind frequency (rough_at m.rough_ms m.rough_fraction row) (slice_index_or m.fine_phase k (pos 0));
  strength_millidbhz = strength_of_kind m.kind (slice_index m.cnr k);
  lock_time_ms = least_lock_of_kind m.kind (slice_index m.lock_indicator k);
  half = slice_index_or m.half_cycle k false;
  source = SourceMsm;
  offset = None;
}

-- formula
-- and that of an MSM of GPS, whose frequencies are known
abbrev pub cell_of_msm : Msm → ℕ → ℕ → Band → Cell
cell_of_msm m k row band = cell_on m k row (Some (frequency_of band))

-- these cells of a message of GPS, and none of another system
abbrev pub if_gps : System → List CellEntry → List CellEntry
if_gps Gps cells = cells
if_gps Glonass cells = []
if_gps Galileo cells = []
if_gps Beidou cells = []
if_gps Qzss cells = []
if_gps Sbas cells = []
if_gps Navic cells = []

-- and of another MSM, if it is of GPS (this project's rule)
abbrev pub cells_of_msm : Msm → List CellEntry
cells_of_msm m = if_gps m.system (msm_entries m.header m.cell_mask (cell_of_msm m))
