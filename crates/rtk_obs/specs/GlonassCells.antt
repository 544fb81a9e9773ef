-- The cells of a 1012 (RTCM 10403.3, message 1012; its codes are this project's assignment). The lengths, the lock
-- times and what is left out are those of a 1004, but for the unit of DF044, the carriers, and codes of L2 that give
-- no cell.
-- Source: RTCM 10403.3, message 1012
use Rattle.std.specs.Prelude.{ℕ, ◌==◌, ℤ, pos, ◌+ℤ◌, Bool, true, false, not, ◌&&◌, ◌||◌, List, [], ◌∷◌, filter, Option, Some, None, nat_le, unsigned_abs, if◌then◌else◌}
use Rattle.std.specs.List.{flat_map}
use Rattle.std.specs.Ordering.{int_eq}
use Rattle.rtk_message.specs.declared.obs1012.GlonassSatellite.{GlonassSatellite}
use Rattle.rtk_message.specs.declared.system.System.TheVariants.{Glonass}
use Rattle.rtk_obs.specs.declared.any_code.AnyCode.{AnyCode}
use Rattle.rtk_obs.specs.declared.any_code.AnyCode.TheVariants.{R1C, R1P, R2C, R2P}
use Rattle.rtk_obs.specs.declared.cell.CellSource.TheVariants.{Legacy}
use Rattle.rtk_obs.specs.declared.cell.Cell.{Cell}
use Rattle.rtk_obs.specs.declared.signal_cells.SignalEntry.{SignalEntry}
use Rattle.rtk_obs.specs.AnyCode.{carrier_of}
use Rattle.rtk_obs.specs.Carriers.{channel_at, frequency_at}
use Rattle.rtk_obs.specs.LegacyCells.{phase_difference, range_difference, l1_range_of, l2_range_of}
use Rattle.rtk_obs.specs.LockTime.{least_lock_of_legacy}
use Rattle.rtk_obs.specs.SatelliteIndex.{index_in}
use Rattle.rtk_obs.specs.Scaling.{strength_of, glonass_length, phase_of_length_on}

-- ---- codes

-- table
-- the code of L1, by DF039 (this project's assignment)
abbrev pub glonass_l1_code : Bool → AnyCode
glonass_l1_code false = R1C
glonass_l1_code true = R1P

-- table
-- the code of L2, by DF046; the others give no cell (this project's assignment)
abbrev pub glonass_l2_code : ℕ → Option AnyCode
glonass_l2_code n = if n == 0 then Some R2C else if n == 1 then Some R2P else None

-- ---- channels

-- table
-- the field of a satellite (DF040) tells no channel: 21 to 29, and 31
abbrev pub tells_no_channel : ℕ → Bool
tells_no_channel field = (nat_le 21 field && nat_le field 29) || (field == 31)

-- formula
-- the field tells this channel by a number that is 7 greater, or none
abbrev pub agrees_in_1012 : ℤ → ℕ → Bool
agrees_in_1012 k field = tells_no_channel field || int_eq (pos field) (k +ℤ pos 7)

-- the channel of a slot, unless the field of its satellite tells another one (this project's rule)
abbrev pub unless_other_in_1012 : ℕ → Option ℤ → Option ℤ
unless_other_in_1012 field None = None
unless_other_in_1012 field (Some k) = if agrees_in_1012 k field then Some k else None

-- the channel of a satellite
abbrev pub glonass_channel : List (Option ℤ) → GlonassSatellite → Option ℤ
glonass_channel channels s = unless_other_in_1012 s.channel (channel_at channels s.slot)

-- ---- the normal form of a field

-- formula
-- what the field of a satellite becomes by the channel of its slot: 31 if the slot has none, a number that is 7 greater if
-- the field does not tell another one, and else 30, which is the mark of a contradiction (this project's rule)
abbrev pub normal_field : Option ℤ → ℕ → ℕ
normal_field None field = 31
normal_field (Some k) field = if agrees_in_1012 k field then unsigned_abs (k +ℤ pos 7) else 30

-- a satellite with this field
abbrev pub with_field : ℕ → GlonassSatellite → GlonassSatellite
with_field field s = record {
  slot = s.slot;
  l1_code = s.l1_code;
  channel = field;
  l1_range = s.l1_range;
  l1_phase_difference = s.l1_phase_difference;
  l1_lock_indicator = s.l1_lock_indicator;
  modulus_ambiguity = s.modulus_ambiguity;
  l1_cnr = s.l1_cnr;
  l2_code = s.l2_code;
  l2_range_difference = s.l2_range_difference;
  l2_phase_difference = s.l2_phase_difference;
  l2_lock_indicator = s.l2_lock_indicator;
  l2_cnr = s.l2_cnr;
}

-- a satellite whose field has its normal form
abbrev pub normal_satellite : List (Option ℤ) → GlonassSatellite → GlonassSatellite
normal_satellite channels s = with_field (normal_field (channel_at channels s.slot) s.channel) s

-- ---- the values of a cell

-- the pseudorange of L1 of a satellite; L2 uses it also if DF042 is invalid
abbrev pub glonass_length_of : GlonassSatellite → ℤ
glonass_length_of s = glonass_length s.l1_range s.modulus_ambiguity

-- a phase: the pseudorange of L1 and a difference, if DF042 or DF048 is valid
abbrev pub glonass_phase_on : ℕ → ℤ → Option ℤ → Option ℤ
glonass_phase_on f length None = None
glonass_phase_on f length (Some offset) = Some (phase_of_length_on f (length +ℤ offset))

-- and if the frequency of the carrier, in Hz, is known
abbrev pub glonass_phase : Option ℕ → ℤ → Option ℤ → Option ℤ
glonass_phase None length offset = None
glonass_phase (Some f) length offset = glonass_phase_on f length offset

-- the difference stands beside a phase
abbrev pub glonass_offset : Option ℕ → Option ℤ → Option ℤ
glonass_offset None offset = None
glonass_offset (Some f) offset = offset

-- formula
-- the cell of L1, on a carrier whose frequency in Hz is known or not: DF041 to DF045
abbrev pub glonass_l1_cell : GlonassSatellite → Option ℕ → Cell
glonass_l1_cell s frequency = record {
  range_mm = l1_range_of (glonass_length_of s) (phase_difference s.l1_phase_difference);
  phase_millicycles = glonass_phase frequency (glonass_length_of s) (phase_difference s.l1_phase_difference);
  strength_millidbhz = strength_of 250 s.l1_cnr;
  lock_time_ms = least_lock_of_legacy s.l1_lock_indicator;
  half = false;
  source = Legacy;
  offset = glonass_offset frequency (phase_difference s.l1_phase_difference);
}

-- formula
-- the cell of L2: DF041, DF044 and DF047 to DF050
abbrev pub glonass_l2_cell : GlonassSatellite → Option ℕ → Cell
glonass_l2_cell s frequency = record {
  range_mm = l2_range_of (glonass_length_of s) (range_difference s.l2_range_difference);
  phase_millicycles = glonass_phase frequency (glonass_length_of s) (phase_difference s.l2_phase_difference);
  strength_millidbhz = strength_of 250 s.l2_cnr;
  lock_time_ms = least_lock_of_legacy s.l2_lock_indicator;
  half = false;
  source = Legacy;
  offset = glonass_offset frequency (phase_difference s.l2_phase_difference);
}

-- ---- the entries

abbrev pub glonass_l1_entry : GlonassSatellite → Option ℤ → ℕ → AnyCode → SignalEntry
glonass_l1_entry s channel satellite code =
    record { satellite = satellite; code = code; doppler_millihertz = pos 0; cell = glonass_l1_cell s (frequency_at (carrier_of code) channel) }

abbrev pub glonass_l2_entry : GlonassSatellite → Option ℤ → ℕ → AnyCode → SignalEntry
glonass_l2_entry s channel satellite code =
    record { satellite = satellite; code = code; doppler_millihertz = pos 0; cell = glonass_l2_cell s (frequency_at (carrier_of code) channel) }

-- the entry of L2, if its code gives one
abbrev pub glonass_l2_entries : GlonassSatellite → Option ℤ → ℕ → Option AnyCode → List SignalEntry
glonass_l2_entries s channel satellite None = []
glonass_l2_entries s channel satellite (Some code) = glonass_l2_entry s channel satellite code ∷ []

-- the entries of a satellite with this channel, if its slot gives some
abbrev pub glonass_entries : GlonassSatellite → Option ℤ → Option ℕ → List SignalEntry
glonass_entries s channel None = []
glonass_entries s channel (Some satellite) =
    glonass_l1_entry s channel satellite (glonass_l1_code s.l1_code) ∷ glonass_l2_entries s channel satellite (glonass_l2_code s.l2_code)

-- the entries of a satellite: its slot (DF038) is 1 to 27, and others give none
abbrev pub slot_entries : List (Option ℤ) → GlonassSatellite → List SignalEntry
slot_entries channels s = glonass_entries s (glonass_channel channels s) (index_in Glonass s.slot)

-- the satellite is of the slot n (this project's rule)
abbrev pub is_of_slot : ℕ → GlonassSatellite → Bool
is_of_slot n s = s.slot == n

-- the first entry of each slot stands (this project's rule)
unfoldable pub first_of_slots : List GlonassSatellite → List GlonassSatellite
first_of_slots [] = []
first_of_slots (s ∷ ss) = s ∷ filter (λ t. not (is_of_slot s.slot t)) (first_of_slots ss)

-- the entries of a 1012, in its order (this project's rule)
abbrev pub entries_of_1012 : List (Option ℤ) → List GlonassSatellite → List SignalEntry
entries_of_1012 channels ss = flat_map (slot_entries channels) (first_of_slots ss)
