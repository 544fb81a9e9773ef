-- Laws on the file of a set.
use Rattle.std.specs.Prelude.{◌≡◌, ℕ, pos, false, List, None, All}
use Rattle.rtk_obs.specs.declared.signal_cells.SignalEntry.{SignalEntry}
use Rattle.rtk_obs.specs.SignalCells.{IsSignalInRange}
use Rattle.rtk_collect.specs.EpochSet.{EpochSetView, EpochsFall}
use Rattle.rtk_rinex.specs.Header.{PositionView, IsPositionView}
use Rattle.rtk_obs.specs.Reading.{IsMoment}
use Rattle.rtk_rinex.specs.MixedForm.{form_of_head, has_phases}
use Rattle.rtk_rinex.specs.MixedTable.{MixedTable, IsMixedTable, mixed_table_text}
use Rattle.rtk_setup.specs.Setup.{SetupView, IsSetupView}
use Rattle.rtk_convert.specs.File.{file_of}

-- a cell of a satellite of GLONASS has no phase and no Doppler shift unless the head tells the channel of its slot
abbrev pub HasPhaseBy : SetupView → SignalEntry → Type 0
HasPhaseBy s e = has_phases (form_of_head s.head) e.satellite ≡ false → (e.cell.phase_millicycles ≡ None) × (e.doppler_millihertz ≡ pos 0)

-- a moment, and cells with a code of the system of their satellite, a strength that messages give, and a phase
-- that has a meaning
pub record IsGoodEpoch (s : SetupView) (e : EpochSetView SignalEntry) : Type 0 where
  pub time : IsMoment e.epoch
  pub cells : All IsSignalInRange e.cells
  pub phases : All (HasPhaseBy s) e.cells

-- this is the text of a well-formed table of any systems, which the checker accepts
abbrev pub IsTextOfTable : List ℕ → Type 0
IsTextOfTable text = (t : MixedTable) × IsMixedTable t × (text ≡ mixed_table_text t)

-- the file of every set is such a text
abbrev pub FileIsTable : Type 0
FileIsTable =
    (s : SetupView) (site : PositionView) (epochs : List (EpochSetView SignalEntry)) → IsSetupView s → IsPositionView site → EpochsFall epochs → All (IsGoodEpoch s) epochs
    → IsTextOfTable (file_of s site epochs)
