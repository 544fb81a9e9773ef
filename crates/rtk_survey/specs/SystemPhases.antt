-- How many phases the satellites of other systems than GPS have in each code, by the messages of one station (this
-- project's rule). Lists of messages and entries are newest first.
use Rattle.std.specs.Prelude.{◌≡◌, ℕ, ◌<◌, ◌+◌, ◌*◌, ◌==◌, Bool, ◌&&◌, List, [], ◌∷◌, length, filter, get_or, is_some, Option, None, Some, unwrap_or, if◌then◌else◌}
use Rattle.std.specs.BTreeMap.{BTreeMap, get}
use Rattle.std.specs.List.{list_any}
use Rattle.std.specs.Ordering.{nat_cmp}
use Rattle.rtk_message.specs.declared.any_message.AnyMessage.{AnyMessage}
use Rattle.rtk_message.specs.AnyDecoded.{station_of}
use Rattle.rtk_obs.specs.declared.any_code.AnyCode.{AnyCode}
use Rattle.rtk_obs.specs.declared.signal_cells.SignalEntry.{SignalEntry}
use Rattle.rtk_obs.specs.AnyCode.{place_of}
use Rattle.rtk_obs.specs.SatelliteIndex.{bit_at}
use Rattle.rtk_survey.specs.BesideGps.{cells_beside, cells_beside_gps}
use Rattle.rtk_survey.specs.Counting.{count_of}
use Rattle.rtk_survey.specs.Phases.{no_phases}
use Rattle.rtk_survey.specs.ReadFrames.{messages_from}
use Rattle.rtk_survey.specs.Tracing.{is_numbered, has_value}
use Rattle.rtk_survey.specs.declared.phases.PhaseCount.{PhaseCount}
use Rattle.rtk_survey.specs.declared.system_phases.PhaseTable.{PhaseTable}
use Rattle.rtk_survey.specs.declared.system_phases.SystemPhases.{SystemPhases}

-- ---- the counts

-- formula
-- the place of a satellite, by its mask bit (DF394), and a code in the table of their system
abbrev pub place_of_phase : ℕ → AnyCode → ℕ
place_of_phase satellite code = 16 * bit_at satellite + place_of code

abbrev pub is_at_place : ℕ → SignalEntry → Bool
is_at_place place e = place_of_phase e.satellite e.code == place

-- a range, a phase or a strength
abbrev pub signal_value_at : ℕ → SignalEntry → Bool
signal_value_at place e = has_value e.cell && is_at_place place e

abbrev pub signal_phase_at : ℕ → SignalEntry → Bool
signal_phase_at place e = is_some e.cell.phase_millicycles && is_at_place place e

-- what the satellite of a place has of its code
abbrev pub signal_phase_count : ℕ → List SignalEntry → PhaseCount
signal_phase_count place es = record { has_value = list_any (signal_value_at place) es; phases = count_of (signal_phase_at place) es }

-- a table has all places
pub record CountsSignalPlaces (table : List PhaseCount) (es : List SignalEntry) : Type 0 where
  pub size : length table ≡ 1024
  pub counts : (n : ℕ) (none : PhaseCount) → n < length table → get_or table n none ≡ signal_phase_count n es

-- as long as there is no table, no cell counts
abbrev pub CountsSignalPhases : List PhaseCount → List SignalEntry → Type 0
CountsSignalPhases [] es = (n : ℕ) → signal_phase_count n es ≡ no_phases
CountsSignalPhases (x ∷ xs) es = CountsSignalPlaces (x ∷ xs) es

-- a number without an entry has no table
abbrev pub table_of_phases : Option PhaseTable → List PhaseCount
table_of_phases None = []
table_of_phases (Some t) = t.counts.items

-- a table for each number of messages, which are of one system
abbrev pub HasPhaseTables : BTreeMap ℕ PhaseTable → List AnyMessage → Type 0
HasPhaseTables tables ms = (n : ℕ) → CountsSignalPhases (table_of_phases (get nat_cmp tables n)) (cells_beside (filter (is_numbered n) ms))

-- ---- the station

-- the station that is known after a message: the first with a cell of another system than GPS, if none was known
abbrev pub cells_station_after : Option ℕ → AnyMessage → Option ℕ
cells_station_after known m = if length (cells_beside_gps m) == 0 then known else Some (unwrap_or known (station_of m))

-- the station that is named, or else the first one with such a cell
abbrev pub cells_station : Option ℕ → List AnyMessage → Option ℕ
cells_station named [] = named
cells_station named (m ∷ before) = cells_station_after (cells_station named before) m

-- the phases of the station that is known; as long as none is, no station has one
abbrev pub HasPhasesOf : BTreeMap ℕ PhaseTable → Option ℕ → List AnyMessage → Type 0
HasPhasesOf tables None ms = (n : ℕ) → HasPhaseTables tables (messages_from n ms)
HasPhasesOf tables (Some station) ms = HasPhaseTables tables (messages_from station ms)

-- what is held of these messages, if this station is named or none
pub record HasSystemPhases (named : Option ℕ) (ms : List AnyMessage) (p : SystemPhases) : Type 0 where
  pub station : p.station ≡ cells_station named ms
  pub tables : HasPhasesOf p.tables p.station ms
