-- The cells of a 1004 (RTCM 10403.3, message 1004; its codes are this project's assignment).
-- Source: RTCM 10403.3, message 1004
use Rattle.std.specs.Prelude.{ℕ, ◌==◌, ℤ, negsuc, ◌+ℤ◌, Bool, true, false, not, List, [], ◌∷◌, filter, Option, Some, None, if◌then◌else◌}
use Rattle.std.specs.List.{flat_map}
use Rattle.rtk_message.specs.declared.obs1004.Satellite.{Satellite}
use Rattle.rtk_obs.specs.declared.code.Band.{Band}
use Rattle.rtk_obs.specs.declared.code.Band.TheVariants.{L1, L2}
use Rattle.rtk_obs.specs.declared.code.Code.{Code}
use Rattle.rtk_obs.specs.declared.code.Code.TheVariants.{G1C, G1P, G2X, G2P, G2D, G2W}
use Rattle.rtk_obs.specs.declared.cell.CellSource.TheVariants.{Legacy}
use Rattle.rtk_obs.specs.declared.cell.Cell.{Cell}
use Rattle.rtk_obs.specs.declared.cell.CellEntry.{CellEntry}
use Rattle.rtk_obs.specs.Cell.{is_satellite, entry_of}
use Rattle.rtk_obs.specs.LockTime.{least_lock_of_legacy}
use Rattle.rtk_obs.specs.Scaling.{unless_invalid, strength_of, l1_length, l2_length, range_of_length, phase_of_length}

-- table
-- the code of L1, by DF010 (this project's assignment)
abbrev pub l1_code_of : Bool → Code
l1_code_of false = G1C
l1_code_of true = G1P

-- table
-- the code of L2, by DF016, 0 to 3 (this project's assignment)
abbrev pub l2_code_of : ℕ → Code
l2_code_of n = if n == 0 then G2X else if n == 1 then G2P else if n == 2 then G2D else G2W

-- formula
-- the invalid mark of DF012 and DF018 is -524288, the one of DF017 is -8192
abbrev pub phase_difference : ℤ → Option ℤ
phase_difference field = unless_invalid (negsuc 524_287) field

-- formula
abbrev pub range_difference : ℤ → Option ℤ
range_difference field = unless_invalid (negsuc 8191) field

-- the pseudorange of L1, if DF012 is valid (this project's rule)
abbrev pub l1_range_of : ℤ → Option ℤ → Option ℤ
l1_range_of length None = None
l1_range_of length (Some offset) = Some (range_of_length length)

-- the pseudorange of L2, if DF017 is valid
abbrev pub l2_range_of : ℤ → Option ℤ → Option ℤ
l2_range_of length None = None
l2_range_of length (Some difference) = Some (range_of_length (l2_length length difference))

-- a phase: the pseudorange of L1 and a difference, if DF012 or DF018 is valid
abbrev pub legacy_phase_of : Band → ℤ → Option ℤ → Option ℤ
legacy_phase_of band length None = None
legacy_phase_of band length (Some offset) = Some (phase_of_length band (length +ℤ offset))

-- the pseudorange of L1 of a satellite; L2 uses it also if DF012 is invalid
abbrev pub length_of : Satellite → ℤ
length_of s = l1_length s.l1_range s.modulus_ambiguity

-- formula
-- the cell of L1: DF011 to DF015
abbrev pub l1_cell_of : Satellite → Cell
l1_cell_of s = record {
  range_mm = l1_range_of (length_of s) (phase_difference s.l1_phase_difference);
  phase_millicycles = legacy_phase_of L1 (length_of s) (phase_difference s.l1_phase_difference);
  strength_millidbhz = strength_of 250 s.l1_cnr;
  lock_time_ms = least_lock_of_legacy s.l1_lock_indicator;
  half = false;
  source = Legacy;
  offset = phase_difference s.l1_phase_difference;
}

-- formula
-- the cell of L2: DF011, DF014 and DF017 to DF020
abbrev pub l2_cell_of : Satellite → Cell
l2_cell_of s = record {
  range_mm = l2_range_of (length_of s) (range_difference s.l2_range_difference);
  phase_millicycles = legacy_phase_of L2 (length_of s) (phase_difference s.l2_phase_difference);
  strength_millidbhz = strength_of 250 s.l2_cnr;
  lock_time_ms = least_lock_of_legacy s.l2_lock_indicator;
  half = false;
  source = Legacy;
  offset = phase_difference s.l2_phase_difference;
}

-- the two cells of a satellite with their codes (this project's rule)
abbrev pub satellite_entries : Satellite → List CellEntry
satellite_entries s =
    entry_of s.satellite (l1_code_of s.l1_code) (l1_cell_of s) ∷ entry_of s.satellite (l2_code_of s.l2_code) (l2_cell_of s) ∷ []

-- the entry is of the satellite n (this project's rule)
abbrev pub has_number : ℕ → Satellite → Bool
has_number n s = s.satellite == n

-- the first entry of each satellite stands (this project's rule)
unfoldable pub first_entries : List Satellite → List Satellite
first_entries [] = []
first_entries (s ∷ ss) = s ∷ filter (λ t. not (has_number s.satellite t)) (first_entries ss)

-- two cells for each satellite from 1 to 32, in the order of the message (this project's rule)
abbrev pub cells_of_1004 : List Satellite → List CellEntry
cells_of_1004 ss = flat_map satellite_entries (filter (λ s. is_satellite s.satellite) (first_entries ss))
