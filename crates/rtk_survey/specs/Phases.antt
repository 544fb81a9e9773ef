-- How many phases the satellites of a station have in each code (this project's rule). Lists of messages
-- and entries are newest first.
use Rattle.std.specs.Prelude.{◌≡◌, ℕ, ◌<◌, ◌+◌, ◌*◌, ◌==◌, Bool, ◌&&◌, List, [], ◌∷◌, length, filter, get_or, is_some}
use Rattle.std.specs.List.{list_any}
use Rattle.rtk_message.specs.declared.any_message.AnyMessage.{AnyMessage}
use Rattle.rtk_message.specs.declared.msm_kind.MsmKind.{MsmKind}
use Rattle.rtk_message.specs.declared.msm_kind.MsmKind.TheVariants.{Msm4, Msm5, Msm6, Msm7}
use Rattle.rtk_obs.specs.declared.cell.CellEntry.{CellEntry}
use Rattle.rtk_obs.specs.declared.code.Code.{Code}
use Rattle.rtk_obs.specs.Code.{place_of}
use Rattle.rtk_survey.specs.Counting.{count_of}
use Rattle.rtk_survey.specs.Tracing.{is_numbered, entries_in, has_value}
use Rattle.rtk_survey.specs.declared.phases.PhaseCount.{PhaseCount}
use Rattle.rtk_survey.specs.declared.phases.Phases.{Phases}

-- formula
-- the place of a satellite and a code in a table
abbrev pub place_in_table : ℕ → Code → ℕ
place_in_table satellite code = 16 * satellite + place_of code

abbrev pub is_at : ℕ → CellEntry → Bool
is_at place e = place_in_table e.satellite e.code == place

-- a range, a phase or a strength
abbrev pub gives_value_at : ℕ → CellEntry → Bool
gives_value_at place e = has_value e.cell && is_at place e

abbrev pub gives_phase_at : ℕ → CellEntry → Bool
gives_phase_at place e = is_some e.cell.phase_millicycles && is_at place e

-- what the satellite of a place has of its code: whether it has a value, and how many phases
abbrev pub phase_count : ℕ → List CellEntry → PhaseCount
phase_count place es = record { has_value = list_any (gives_value_at place) es; phases = count_of (gives_phase_at place) es }

abbrev pub no_phases : PhaseCount
no_phases = phase_count 0 []

-- the cells of the messages of this number
abbrev pub entries_numbered : ℕ → List AnyMessage → List CellEntry
entries_numbered number ms = entries_in (filter (is_numbered number) ms)

-- a table has all places
pub record CountsPlaces (table : List PhaseCount) (es : List CellEntry) : Type 0 where
  pub size : length table ≡ 528
  pub counts : (n : ℕ) (none : PhaseCount) → n < length table → get_or table n none ≡ phase_count n es

-- as long as there is no table, no cell counts
abbrev pub CountsPhases : List PhaseCount → List CellEntry → Type 0
CountsPhases [] es = (n : ℕ) → phase_count n es ≡ no_phases
CountsPhases (x ∷ xs) es = CountsPlaces (x ∷ xs) es

-- a table for each number of a message with observations
pub record HasPhases (p : Phases) (ms : List AnyMessage) : Type 0 where
  pub of_1004 : CountsPhases p.of_1004.items (entries_numbered 1004 ms)
  pub of_1074 : CountsPhases p.of_1074.items (entries_numbered 1074 ms)
  pub of_1075 : CountsPhases p.of_1075.items (entries_numbered 1075 ms)
  pub of_1076 : CountsPhases p.of_1076.items (entries_numbered 1076 ms)
  pub of_1077 : CountsPhases p.of_1077.items (entries_numbered 1077 ms)

-- the table of an MSM
abbrev pub table_of_msm : Phases → MsmKind → List PhaseCount
table_of_msm p Msm4 = p.of_1074.items
table_of_msm p Msm5 = p.of_1075.items
table_of_msm p Msm6 = p.of_1076.items
table_of_msm p Msm7 = p.of_1077.items

-- formula
-- what a satellite, by its mask bit (DF394), has of the code of a place among those of its system, by a table
abbrev pub count_in : List PhaseCount → ℕ → ℕ → PhaseCount
count_in table bit code = get_or table (16 * bit + code) no_phases
