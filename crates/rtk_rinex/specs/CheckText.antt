-- The first fault in the records of a text: a file can begin with the lines before it, but not with
-- these and the line of the fault.
use Rattle.std.specs.Prelude.{◌≡◌, ◌≢◌, ◌<◌, ℕ, ◌+◌, List, [], ◌∷◌, ◌++◌, length, flat_map, sum_by, Option, Some, None, ◌⊎◌}
use Rattle.std.specs.Int.{IsInRange}
use Rattle.rtk_obs.specs.Reading.{IsMoment, reading_of}
use Rattle.rtk_rinex.specs.Record.{EpochTableView, epoch_line, satellite_line, record_text}
use Rattle.rtk_rinex.specs.Table.{IsTableRow, IsTableEpoch}
use Rattle.rtk_rinex.specs.Lines.{HasNoEnd, IsLine}
use Rattle.rtk_rinex.specs.CheckLine.{IsNextTime, IsEpochFault, IsNextSatellite, IsSatelliteFault}
use Rattle.rtk_rinex.specs.declared.epoch_table.SatelliteRow.{SatelliteRow}
use Rattle.rtk_rinex.specs.declared.check_fault.Cause.{Cause}
use Rattle.rtk_rinex.specs.declared.check_fault.Cause.TheVariants.{Truncated}
use Rattle.rtk_rinex.specs.declared.check_fault.CheckFault.{CheckFault}

-- a line should begin this text: the text ends before the line does, or the line has a fault
abbrev pub BeginsWithFault : (List ℕ → Cause → Type 0) → List ℕ → Cause → Type 0
BeginsWithFault IsFault text Truncated = HasNoEnd text
BeginsWithFault IsFault text cause = (line : List ℕ) × (rest : List ℕ) × IsLine line × (text ≡ line ++ rest) × IsFault line cause

-- the satellite of the last row, or `last` if there is no row
abbrev pub last_satellite : Option ℕ → List SatelliteRow → Option ℕ
last_satellite last [] = last
last_satellite last (r ∷ rows) = last_satellite (Some r.satellite) rows

-- rows of a file of n codes, after the satellite `last`: each satellite is greater than the one
-- before
abbrev pub AreRows : ℕ → Option ℕ → List SatelliteRow → Type 0
AreRows n last [] = Unit {0}
AreRows n last (r ∷ rows) = IsTableRow n r × IsNextSatellite last r.satellite × AreRows n (Some r.satellite) rows

-- the moment of the last epoch, or `last` if there is no epoch
abbrev pub last_time : Option ℕ → List EpochTableView → Option ℕ
last_time last [] = last
last_time last (e ∷ epochs) = last_time (Some e.time) epochs

-- epochs of a file of n codes and this first time, after the moment `last`: each is later than the
-- one before
abbrev pub AreEpochs : ℕ → ℕ → Option ℕ → List EpochTableView → Type 0
AreEpochs n first last [] = Unit {0}
AreEpochs n first last (e ∷ epochs) = IsTableEpoch n e × IsNextTime first last e.time × AreEpochs n first (Some e.time) epochs

-- a record has an epoch line, and a line for each satellite
abbrev pub record_lines : List EpochTableView → ℕ
record_lines epochs = sum_by (λ e. 1 + length e.rows) epochs

abbrev pub satellite_lines : List EpochTableView → ℕ
satellite_lines epochs = sum_by (λ e. length e.rows) epochs

-- `count` satellite lines are due after the first `before` lines: fewer good ones stand there, then
-- the fault
pub record IsFaultOfRows (n count before : ℕ) (bytes : List ℕ) (fault : CheckFault) : Type 0 where
  pub rows : List SatelliteRow
  pub rest : List ℕ
  pub are_rows : AreRows n None rows
  pub due : length rows < count
  pub text : bytes ≡ flat_map satellite_line rows ++ rest
  pub line : fault.line ≡ before + length rows + 1
  pub cause : BeginsWithFault (IsSatelliteFault n (last_satellite None rows)) rest fault.cause

-- formula
-- the epoch line is good, and the fault is in a line of a satellite
pub record IsFaultAfterEpochLine (n first : ℕ) (last : Option ℕ) (before : ℕ) (bytes : List ℕ) (fault : CheckFault) : Type 0 where
  pub time : ℕ
  pub count : ℕ
  pub rest : List ℕ
  pub moment : IsMoment time
  pub range : IsInRange 1 32 count
  pub next : IsNextTime first last time
  pub text : bytes ≡ epoch_line (reading_of time) count ++ rest
  pub rows : IsFaultOfRows n count (before + 1) rest fault

-- the fault is in the epoch line, which is due since the text has not ended
pub record IsFaultOfEpochLine (first : ℕ) (last : Option ℕ) (before : ℕ) (bytes : List ℕ) (fault : CheckFault) : Type 0 where
  pub some : bytes ≢ []
  pub line : fault.line ≡ before + 1
  pub cause : BeginsWithFault (IsEpochFault first last) bytes fault.cause

-- the fault is in the record that should begin the text, after the moment `last` and the first
-- `before` lines
abbrev pub IsFaultOfRecord : ℕ → ℕ → Option ℕ → ℕ → List ℕ → CheckFault → Type 0
IsFaultOfRecord n first last before text fault =
    IsFaultOfEpochLine first last before text fault ⊎ IsFaultAfterEpochLine n first last before text fault

-- good records, and after them the fault
pub record IsFaultOfRecords (n first before : ℕ) (bytes : List ℕ) (fault : CheckFault) : Type 0 where
  pub epochs : List EpochTableView
  pub rest : List ℕ
  pub are_epochs : AreEpochs n first None epochs
  pub text : bytes ≡ flat_map record_text epochs ++ rest
  pub next : IsFaultOfRecord n first (last_time None epochs) (before + record_lines epochs) rest fault
