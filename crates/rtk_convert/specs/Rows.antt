-- The table of an epoch, given the epochs below it. Lists of epochs fall: the greatest stands
-- first.
use Rattle.std.specs.Prelude.{ℕ, zero, suc, Bool, false, ◌&&◌, ◌==◌, List, [], ◌∷◌, ◌++◌, map, filter, Option, Some, None, is_some, if◌then◌else◌, ℤ, pos}
use Rattle.std.specs.List.{list_any}
use Rattle.std.specs.Ordering.{int_eq}
use Rattle.rtk_obs.specs.declared.any_code.AnyCode.{AnyCode}
use Rattle.rtk_obs.specs.declared.cell.Cell.{Cell}
use Rattle.rtk_obs.specs.declared.cell.CellSource.TheVariants.{Legacy, Msm}
use Rattle.rtk_obs.specs.declared.signal_cells.SignalEntry.{SignalEntry}
use Rattle.rtk_obs.specs.declared.track.Track.{Track}
use Rattle.rtk_obs.specs.declared.track.Digits.{Digits}
use Rattle.rtk_obs.specs.AnyCode.{number_of, carrier_of}
use Rattle.rtk_obs.specs.Carriers.{roll_frequency}
use Rattle.rtk_obs.specs.SatelliteIndex.{letter_of, system_at}
use Rattle.rtk_obs.specs.Slip.{EpochCell, epoch_cell}
use Rattle.rtk_obs.specs.Rollover.{last_phase, digits_since, rolled_phase}
use Rattle.rtk_collect.specs.EpochSet.{EpochSetView, is_from}
use Rattle.rtk_collect.specs.Signals.{signals}
use Rattle.rtk_rinex.specs.declared.epoch_table.Observed.{Observed}
use Rattle.rtk_rinex.specs.declared.epoch_table.SatelliteRow.{SatelliteRow}
use Rattle.rtk_rinex.specs.MixedHeader.{codes_of}
use Rattle.rtk_rinex.specs.Record.{EpochTableView}

-- ---- the cell of a satellite and code (this project's rule)

-- the cells of an epoch: first the cells of an MSM, then the cells of a 1004 or a 1012
abbrev pub in_turn : List SignalEntry → List SignalEntry
in_turn cells = filter (is_from signals Msm) cells ++ filter (is_from signals Legacy) cells

abbrev pub is_signal : ℕ → AnyCode → SignalEntry → Bool
is_signal satellite code e = (e.satellite == satellite) && (number_of e.code == number_of code)

-- the first cell of a satellite and code
abbrev pub first_cell : List SignalEntry → ℕ → AnyCode → Option SignalEntry
first_cell [] satellite code = None
first_cell (e ∷ cells) satellite code = if is_signal satellite code e then Some e else first_cell cells satellite code

-- the cell of a satellite and code at an epoch: the cell of an MSM, even one without any value,
-- else the cell of a 1004 or a 1012
abbrev pub cell_at : List SignalEntry → ℕ → AnyCode → Option SignalEntry
cell_at cells satellite code = first_cell (in_turn cells) satellite code

abbrev pub and_below : ℕ → Option SignalEntry → List EpochCell → List EpochCell
and_below epoch None below = below
and_below epoch (Some e) below = epoch_cell epoch e.cell ∷ below

-- the cells of a satellite and code at these epochs, whether the code is listed or not
abbrev pub cells_at_epochs : List (EpochSetView SignalEntry) → ℕ → AnyCode → List EpochCell
cells_at_epochs [] satellite code = []
cells_at_epochs (e ∷ below) satellite code = and_below e.epoch (cell_at e.cells satellite code) (cells_at_epochs below satellite code)

-- the frequency by which the rolls of a code are counted, in Hz: that of its carrier. Only phases of a 1004 or a 1012 roll
abbrev pub rolling_frequency : AnyCode → ℕ
rolling_frequency code = roll_frequency (carrier_of code)

-- the last phase of a satellite and code at these epochs
abbrev pub last_phase_of : List (EpochSetView SignalEntry) → ℕ → AnyCode → Option Track
last_phase_of below satellite code = last_phase (rolling_frequency code) (cells_at_epochs below satellite code)

-- ---- what a cell shows (RINEX 3.05, Table A3)

abbrev pub rolled_or_none : Option ℤ → ℤ → Option ℤ
rolled_or_none None rolls = None
rolled_or_none (Some phase) rolls = rolled_phase phase rolls

-- a Doppler shift, of which 0 means none
abbrev pub shift_or_none : ℤ → Option ℤ
shift_or_none shift = if int_eq shift (pos 0) then None else Some shift

-- the values of a cell with its Doppler shift and its digits: its phase has 1500 cycles added for each roll
abbrev pub observed_by : Cell → ℤ → Digits → Observed
observed_by c shift d =
    record {
      range_mm = c.range_mm;
      phase_millicycles = rolled_or_none c.phase_millicycles d.rolls;
      doppler_millihertz = shift_or_none shift;
      strength_millidbhz = c.strength_millidbhz;
      slip = d.slip;
      half = d.half;
    }

abbrev pub observed_with : SignalEntry → Digits → Observed
observed_with e d = observed_by e.cell e.doppler_millihertz d

-- what the cell of a code shows at an epoch, after the last phase
abbrev pub observed_after : Option Track → AnyCode → ℕ → Option SignalEntry → Option Observed
observed_after last code epoch None = None
observed_after last code epoch (Some e) = Some (observed_with e (digits_since (rolling_frequency code) last (epoch_cell epoch e.cell)))

-- what a satellite and code show at an epoch, given the epochs below
abbrev pub observed_at : EpochSetView SignalEntry → List (EpochSetView SignalEntry) → ℕ → AnyCode → Option Observed
observed_at e below satellite code = observed_after (last_phase_of below satellite code) code e.epoch (cell_at e.cells satellite code)

-- ---- the table

-- what is observed, or a record without any value
abbrev pub or_nothing : Option Observed → Observed
or_nothing None = record { range_mm = None; phase_millicycles = None; doppler_millihertz = None; strength_millidbhz = None; slip = false; half = false }
or_nothing (Some o) = o

-- the listed codes of the system of a satellite, in their order
abbrev pub codes_for : List AnyCode → ℕ → List AnyCode
codes_for listed satellite = codes_of (letter_of (system_at satellite)) listed

-- what these codes of a satellite show, in their order
abbrev pub row_with : (ℕ → AnyCode → Option Observed) → List AnyCode → ℕ → SatelliteRow
row_with shown codes satellite = record { satellite = satellite; observed = record { items = map (λ code. or_nothing (shown satellite code)) codes } }

-- the row of a satellite, if it has a cell of one of these codes
abbrev pub row_if_any : (ℕ → AnyCode → Option Observed) → List AnyCode → ℕ → List SatelliteRow
row_if_any shown codes satellite =
    if list_any (λ code. is_some (shown satellite code)) codes then row_with shown codes satellite ∷ [] else []

-- the rows of the satellites from 1 to n, rising, each with the listed codes of its system
unfoldable pub rows_to : (ℕ → AnyCode → Option Observed) → List AnyCode → ℕ → List SatelliteRow
rows_to shown listed zero = []
rows_to shown listed (suc n) = rows_to shown listed n ++ row_if_any shown (codes_for listed (suc n)) (suc n)

-- formula
-- the table of an epoch for the listed codes, given the epochs below it
abbrev pub table_of : List AnyCode → EpochSetView SignalEntry → List (EpochSetView SignalEntry) → EpochTableView
table_of listed e below = record { time = e.epoch; rows = rows_to (observed_at e below) listed 221 }
