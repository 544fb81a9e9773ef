-- Messages of other systems than GPS, and SBAS of 1004: their times, and the satellites and codes of their cells.
-- Lists of messages and entries are newest first.
-- Source: RTCM 10403.3, messages 1004, 1012, and 1081 to 1137
use Rattle.std.specs.Prelude.{ℕ, ◌/◌, ◌%◌, ◌^◌, ◌==◌, Bool, true, false, ◌&&◌, ◌||◌, List, [], flat_map, filter, Option, None, Some, if◌then◌else◌}
use Rattle.std.specs.List.{list_any, filter_map}
use Rattle.rtk_message.specs.declared.any_message.AnyMessage.{AnyMessage}
use Rattle.rtk_message.specs.declared.any_message.AnyMessage.TheVariants as any
use Rattle.rtk_message.specs.Obs1012 as obs1012
use Rattle.rtk_message.specs.declared.message.Message.{Message}
use Rattle.rtk_message.specs.declared.message.Message.TheVariants.{Obs1004, Arp1005, Arp1006, Msm1074}
use Rattle.rtk_message.specs.declared.system.System.{System}
use Rattle.rtk_message.specs.declared.system.System.TheVariants.{Gps, Glonass, Galileo, Beidou, Qzss, Sbas, Navic}
use Rattle.rtk_obs.specs.declared.any_code.AnyCode.{AnyCode}
use Rattle.rtk_obs.specs.declared.signal_cells.SignalEntry.{SignalEntry}
use Rattle.rtk_obs.specs.AnyCode as any_code
use Rattle.rtk_obs.specs.Clocks.{beidou_tow}
use Rattle.rtk_obs.specs.GlonassCells.{entries_of_1012}
use Rattle.rtk_obs.specs.GlonassTime.{glonass_tow}
use Rattle.rtk_obs.specs.SbasCells.{signals_of_1004}
use Rattle.rtk_obs.specs.SignalCells.{signal_entries}
use Rattle.rtk_survey.specs.PhaseChannels.{phase_channels}
use Rattle.rtk_survey.specs.Tracing.{is_numbered, is_beside_gps, has_value}

-- a message of another system than GPS, of this number
abbrev pub is_beside_numbered : ℕ → AnyMessage → Bool
is_beside_numbered n m = is_beside_gps m && is_numbered n m

-- ---- satellites and codes

-- table
abbrev pub is_other_system : System → Bool
is_other_system Gps = false
is_other_system Glonass = true
is_other_system Galileo = true
is_other_system Beidou = true
is_other_system Qzss = true
is_other_system Sbas = true
is_other_system Navic = true

-- a cell of another system than GPS
abbrev pub is_beside_entry : SignalEntry → Bool
is_beside_entry e = is_other_system (any_code.system_of e.code)

-- the cells of satellites of SBAS in a 1004
abbrev pub sbas_cells_of_four : Message → List SignalEntry
sbas_cells_of_four (Obs1004 m) = filter is_beside_entry (signals_of_1004 m.satellites)
sbas_cells_of_four (Arp1005 m) = []
sbas_cells_of_four (Arp1006 m) = []
sbas_cells_of_four (Msm1074 m) = []

-- the cells of other systems than GPS of a message. A phase of GLONASS counts on any channel
abbrev pub cells_beside_gps : AnyMessage → List SignalEntry
cells_beside_gps (any.Message m) = sbas_cells_of_four m
cells_beside_gps (any.Msm m) = if is_other_system m.system then signal_entries (phase_channels (any.Msm m)) m else []
cells_beside_gps (any.Obs1012 m) = entries_of_1012 (phase_channels (any.Obs1012 m)) m.satellites

-- the cells of messages
abbrev pub cells_beside : List AnyMessage → List SignalEntry
cells_beside ms = flat_map cells_beside_gps ms

abbrev pub signal_has_value : SignalEntry → Bool
signal_has_value e = has_value e.cell

abbrev pub gives_index : ℕ → SignalEntry → Bool
gives_index n e = has_value e.cell && (e.satellite == n)

abbrev pub gives_number : ℕ → SignalEntry → Bool
gives_number n e = has_value e.cell && (any_code.number_of e.code == n)

-- a cell of the satellite with this index has a value
abbrev pub has_index : List SignalEntry → ℕ → Bool
has_index es n = list_any (gives_index n) es

-- a cell of this code has a value
abbrev pub has_any_code : List SignalEntry → AnyCode → Bool
has_any_code es c = list_any (gives_number (any_code.number_of c)) es

-- ---- times

-- table
-- the time of week that a clock tells, in ms: that of GPS, but for GLONASS that of UTC, since a capture need not tell the
-- leap seconds between the two. The unknown day of a clock of GLONASS (DF416 7) is Sunday in Moscow
abbrev pub told_time : System → ℕ → ℕ
told_time Gps c = c
told_time Glonass c = glonass_tow (c / 2 ^ 27) (c % 2 ^ 27) 0
told_time Galileo c = c
told_time Beidou c = beidou_tow c
told_time Qzss c = c
told_time Sbas c = c
told_time Navic c = c

abbrev pub told_time_of : AnyMessage → Option ℕ
told_time_of (any.Message m) = None
told_time_of (any.Msm m) = Some (told_time m.system m.header.tow)
told_time_of (any.Obs1012 m) = Some (told_time Glonass (obs1012.clock_of m))

-- a message that has a cell of another system than GPS with a range, a phase or a strength
abbrev pub gives_value_beside : AnyMessage → Bool
gives_value_beside m = list_any signal_has_value (cells_beside_gps m)

-- the times of such messages; a 1004 tells the time of GPS, and has none here
abbrev pub times_beside : List AnyMessage → List ℕ
times_beside ms = filter_map told_time_of (filter gives_value_beside ms)

-- ---- messages by number

-- a message of another system than GPS, or one that gives a value of one: a 1004 in which a satellite of SBAS has a value
abbrev pub has_part_beside : AnyMessage → Bool
has_part_beside m = is_beside_gps m || gives_value_beside m

abbrev pub is_part_numbered : ℕ → AnyMessage → Bool
is_part_numbered n m = has_part_beside m && is_numbered n m

-- such messages of this number
abbrev pub messages_beside : ℕ → List AnyMessage → List AnyMessage
messages_beside n ms = filter (is_part_numbered n) ms
