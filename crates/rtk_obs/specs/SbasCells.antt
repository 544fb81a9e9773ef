-- The cells of the satellites of SBAS in a 1004. Their fields of L2 are zeros without an invalid mark, so L1 alone
-- gives a cell (this project's rule).
-- Source: RTCM 10403.3, DF009 and message 1004
use Rattle.std.specs.Prelude.{ℕ, ◌-◌, Bool, ◌&&◌, nat_le, List, [], ◌∷◌, map, Option, Some, None, if◌then◌else◌, ℤ, pos}
use Rattle.std.specs.List.{flat_map}
use Rattle.rtk_message.specs.declared.any_message.AnyMessage.{AnyMessage}
use Rattle.rtk_message.specs.declared.any_message.AnyMessage.TheVariants as any
use Rattle.rtk_message.specs.declared.message.Message.TheVariants.{Obs1004, Arp1005, Arp1006, Msm1074}
use Rattle.rtk_message.specs.declared.obs1004.Satellite.{Satellite}
use Rattle.rtk_message.specs.declared.system.System.TheVariants.{Sbas}
use Rattle.rtk_obs.specs.declared.any_code.AnyCode.TheVariants.{S1C}
use Rattle.rtk_obs.specs.declared.signal_cells.SignalEntry.{SignalEntry}
use Rattle.rtk_obs.specs.Cell.{is_satellite}
use Rattle.rtk_obs.specs.LegacyCells.{satellite_entries, l1_cell_of, first_entries}
use Rattle.rtk_obs.specs.SatelliteIndex.{index_in}
use Rattle.rtk_obs.specs.SignalCells.{signal_of, entries_of}

-- constant
-- the satellite IDs (DF009) 40 to 58 are of SBAS: PRN 120 to 138, which are S20 to S38
abbrev pub is_sbas_number : ℕ → Bool
is_sbas_number n = nat_le 40 n && nat_le n 58

-- the entry of a satellite of SBAS
abbrev pub sbas_entry_if : Satellite → Option ℕ → List SignalEntry
sbas_entry_if s None = []
sbas_entry_if s (Some satellite) = record { satellite = satellite; code = S1C; doppler_millihertz = pos 0; cell = l1_cell_of s } ∷ []

-- formula
-- the entries of a satellite of a 1004: two of a satellite of GPS, and one of a satellite of SBAS, whose mask bit
-- (DF394) is 1 for PRN 120
abbrev pub satellite_signals : Satellite → List SignalEntry
satellite_signals s =
    if is_satellite s.satellite then map signal_of (satellite_entries s)
    else if is_sbas_number s.satellite then sbas_entry_if s (index_in Sbas (s.satellite - 39))
    else []

-- the entries of a 1004 with those of SBAS, in its order: the first entry of each satellite gives some
abbrev pub signals_of_1004 : List Satellite → List SignalEntry
signals_of_1004 ss = flat_map satellite_signals (first_entries ss)

-- the entries of a message, if SBAS of a 1004 is taken
abbrev pub entries_with_sbas : List (Option ℤ) → AnyMessage → List SignalEntry
entries_with_sbas channels (any.Message (Obs1004 m)) = signals_of_1004 m.satellites
entries_with_sbas channels (any.Message (Arp1005 m)) = entries_of channels (any.Message (Arp1005 m))
entries_with_sbas channels (any.Message (Arp1006 m)) = entries_of channels (any.Message (Arp1006 m))
entries_with_sbas channels (any.Message (Msm1074 m)) = entries_of channels (any.Message (Msm1074 m))
entries_with_sbas channels (any.Msm m) = entries_of channels (any.Msm m)
entries_with_sbas channels (any.Obs1012 m) = entries_of channels (any.Obs1012 m)
