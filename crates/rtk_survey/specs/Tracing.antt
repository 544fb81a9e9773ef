-- What the messages of a station tell of it: their numbers, their times, and the satellites and
-- codes with a value. Lists of messages and times are newest first.
use Rattle.std.specs.Prelude.{ℕ, ◌+◌, ◌==◌, Bool, true, false, not, ◌&&◌, ◌||◌, List, [], ◌∷◌, flat_map, Option, None, Some, unwrap_or, is_some, if◌then◌else◌}
use Rattle.std.specs.List.{list_any, filter_map}
use Rattle.rtk_message.specs.declared.any_message.AnyMessage.{AnyMessage}
use Rattle.rtk_message.specs.declared.any_message.AnyMessage.TheVariants as any
use Rattle.rtk_message.specs.declared.any_fault.AnyFault.{AnyFault}
use Rattle.rtk_message.specs.declared.any_fault.AnyFault.TheVariants.{NoNumber, Other, Short, EpochRange, TooManyCells}
use Rattle.rtk_message.specs.Accepted.{of_gps, all_kinds, accepts}
use Rattle.rtk_message.specs.AnyDecoded.{number_of}
use Rattle.rtk_message.specs.Decoded.{tow_of}
use Rattle.rtk_message.specs.declared.system.System.{System}
use Rattle.rtk_message.specs.declared.system.System.TheVariants.{Gps, Glonass, Galileo, Beidou, Qzss, Sbas, Navic}
use Rattle.rtk_obs.specs.declared.cell.Cell.{Cell}
use Rattle.rtk_obs.specs.declared.cell.CellEntry.{CellEntry}
use Rattle.rtk_obs.specs.declared.code.Code.{Code}
use Rattle.rtk_obs.specs.Code.{place_of}
use Rattle.rtk_obs.specs.MessageCells.{cells_of}

-- the message has this number (DF002)
abbrev pub is_numbered : ℕ → AnyMessage → Bool
is_numbered n m = number_of m == n

-- a number of the messages of GPS and of stations: 1004 to 1006 and 1074 to 1077 (DF002)
abbrev pub is_gps_number : ℕ → Bool
is_gps_number n = accepts (of_gps all_kinds) n

-- a message of another system than GPS
abbrev pub is_beside_gps : AnyMessage → Bool
is_beside_gps m = not (is_gps_number (number_of m))

-- ---- payloads that are no message

-- another message than those that are read, of this number
abbrev pub is_other : ℕ → AnyFault → Bool
is_other n (Other number) = number == n
is_other n _ = false

-- a message of this number that is cut short
abbrev pub is_short : ℕ → AnyFault → Bool
is_short n (Short number) = number == n
is_short n _ = false

-- a message of this number whose time is outside the week
abbrev pub is_outside_week : ℕ → AnyFault → Bool
is_outside_week n (EpochRange number) = number == n
is_outside_week n _ = false

abbrev pub is_no_number : AnyFault → Bool
is_no_number NoNumber = true
is_no_number _ = false

-- a message of this number whose cell mask is too long
abbrev pub is_too_many_cells : ℕ → AnyFault → Bool
is_too_many_cells n (TooManyCells number) = number == n
is_too_many_cells n _ = false

-- ---- times

-- table
-- the time of week that a clock of a system tells, if it is GPS time. Clocks of GLONASS tell UTC, and those of BeiDou a time
-- of their own, which some receivers have wrong
abbrev pub gps_time_by : System → ℕ → Option ℕ
gps_time_by Gps clock = Some clock
gps_time_by Glonass clock = None
gps_time_by Galileo clock = Some clock
gps_time_by Beidou clock = None
gps_time_by Qzss clock = Some clock
gps_time_by Sbas clock = Some clock
gps_time_by Navic clock = Some clock

-- the time of week of a message whose clock tells GPS time (DF004 and its like)
abbrev pub gps_time_of : AnyMessage → Option ℕ
gps_time_of (any.Message m) = tow_of m
gps_time_of (any.Msm m) = gps_time_by m.system m.header.tow
gps_time_of (any.Obs1012 m) = None

-- the times of week of the observation messages of GPS, Galileo, QZSS, SBAS and NavIC
abbrev pub times_of_week : List AnyMessage → List ℕ
times_of_week ms = filter_map gps_time_of ms

abbrev pub newest_time : List ℕ → Option ℕ
newest_time [] = None
newest_time (t ∷ before) = Some t

abbrev pub oldest_time : List ℕ → Option ℕ
oldest_time [] = None
oldest_time (t ∷ before) = Some (unwrap_or (oldest_time before) t)

-- 1 if the time differs from the one before it; the first differs from none
abbrev pub change_from : Option ℕ → ℕ → ℕ
change_from None t = 0
change_from (Some before) t = if before == t then 0 else 1

-- formula
-- how many of the times differ from the one before
abbrev pub changes_in : List ℕ → ℕ
changes_in [] = 0
changes_in (t ∷ before) = changes_in before + change_from (newest_time before) t

-- ---- satellites and codes

-- the cells of a message
abbrev pub entries_of_message : AnyMessage → List CellEntry
entries_of_message m = cells_of m

-- the cells of messages
abbrev pub entries_in : List AnyMessage → List CellEntry
entries_in ms = flat_map entries_of_message ms

-- formula
-- the cell has a range, a phase or a strength
abbrev pub has_value : Cell → Bool
has_value c = is_some c.range_mm || (is_some c.phase_millicycles || is_some c.strength_millidbhz)

abbrev pub gives_satellite : ℕ → CellEntry → Bool
gives_satellite n e = has_value e.cell && (e.satellite == n)

abbrev pub gives_place : ℕ → CellEntry → Bool
gives_place place e = has_value e.cell && (place_of e.code == place)

-- a cell of this satellite has a value
abbrev pub has_satellite : List CellEntry → ℕ → Bool
has_satellite es n = list_any (gives_satellite n) es

-- a cell of this code has a value
abbrev pub has_code : List CellEntry → Code → Bool
has_code es c = list_any (gives_place (place_of c)) es
