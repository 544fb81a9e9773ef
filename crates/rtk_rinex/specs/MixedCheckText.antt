-- The first fault in the records of a text of any systems: a file can begin with the lines before it, but
-- not with these and the line of the fault.
use Rattle.std.specs.Prelude.{◌≡◌, ◌≢◌, ◌<◌, ℕ, ◌+◌, List, [], ◌∷◌, ◌++◌, length, flat_map, Option, Some, None, ◌⊎◌}
use Rattle.std.specs.Int.{IsInRange}
use Rattle.rtk_obs.specs.Reading.{IsMoment, reading_of}
use Rattle.rtk_rinex.specs.Record.{EpochTableView, epoch_line}
use Rattle.rtk_rinex.specs.MixedRecord.{mixed_satellite_line, mixed_record_text}
use Rattle.rtk_rinex.specs.MixedForm.{FormView, most_satellites}
use Rattle.rtk_rinex.specs.MixedTable.{IsMixedRow, IsMixedEpoch}
use Rattle.rtk_rinex.specs.CheckLine.{IsNextTime, IsNextSatellite}
use Rattle.rtk_rinex.specs.MixedCheckLine.{IsMixedEpochFault, IsMixedSatelliteFault}
use Rattle.rtk_rinex.specs.CheckText.{BeginsWithFault, last_satellite, last_time, record_lines}
use Rattle.rtk_rinex.specs.declared.epoch_table.SatelliteRow.{SatelliteRow}
use Rattle.rtk_rinex.specs.declared.check_fault.CheckFault.{CheckFault}

-- rows of a file of this form, after the satellite `last`: each satellite is greater than the one before
abbrev pub AreMixedRows : FormView → Option ℕ → List SatelliteRow → Type 0
AreMixedRows f last [] = Unit {0}
AreMixedRows f last (r ∷ rows) = IsMixedRow f r × IsNextSatellite last r.satellite × AreMixedRows f (Some r.satellite) rows

-- epochs of a file of this form and this first time, after the moment `last`: each is later than the one
-- before
abbrev pub AreMixedEpochs : FormView → ℕ → Option ℕ → List EpochTableView → Type 0
AreMixedEpochs f first last [] = Unit {0}
AreMixedEpochs f first last (e ∷ epochs) = IsMixedEpoch f e × IsNextTime first last e.time × AreMixedEpochs f first (Some e.time) epochs

-- `count` satellite lines are due after the first `before` lines: fewer good ones stand there, then the
-- fault
pub record IsFaultOfMixedRows (f : FormView) (count before : ℕ) (bytes : List ℕ) (fault : CheckFault) : Type 0 where
  pub rows : List SatelliteRow
  pub rest : List ℕ
  pub are_rows : AreMixedRows f None rows
  pub due : length rows < count
  pub text : bytes ≡ flat_map (mixed_satellite_line f.doppler) rows ++ rest
  pub line : fault.line ≡ before + length rows + 1
  pub cause : BeginsWithFault (IsMixedSatelliteFault f (last_satellite None rows)) rest fault.cause

-- formula
-- the epoch line is good, and the fault is in a line of a satellite
pub record IsFaultAfterMixedEpochLine (f : FormView) (first : ℕ) (last : Option ℕ) (before : ℕ) (bytes : List ℕ) (fault : CheckFault) : Type 0 where
  pub time : ℕ
  pub count : ℕ
  pub rest : List ℕ
  pub moment : IsMoment time
  pub range : IsInRange 1 (most_satellites f) count
  pub next : IsNextTime first last time
  pub text : bytes ≡ epoch_line (reading_of time) count ++ rest
  pub rows : IsFaultOfMixedRows f count (before + 1) rest fault

-- the fault is in the epoch line, which is due since the text has not ended
pub record IsFaultOfMixedEpochLine (f : FormView) (first : ℕ) (last : Option ℕ) (before : ℕ) (bytes : List ℕ) (fault : CheckFault) : Type 0 where
  pub some : bytes ≢ []
  pub line : fault.line ≡ before + 1
  pub cause : BeginsWithFault (IsMixedEpochFault f first last) bytes fault.cause

-- the fault is in the record that should begin the text, after the moment `last` and the first `before`
-- lines
abbrev pub IsFaultOfMixedRecord : FormView → ℕ → Option ℕ → ℕ → List ℕ → CheckFault → Type 0
IsFaultOfMixedRecord f first last before text fault =
    IsFaultOfMixedEpochLine f first last before text fault ⊎ IsFaultAfterMixedEpochLine f first last before text fault

-- good records, and after them the fault
pub record IsFaultOfMixedRecords (f : FormView) (first before : ℕ) (bytes : List ℕ) (fault : CheckFault) : Type 0 where
  pub epochs : List EpochTableView
  pub rest : List ℕ
  pub are_epochs : AreMixedEpochs f first None epochs
  pub text : bytes ≡ flat_map (mixed_record_text f.doppler) epochs ++ rest
  pub next : IsFaultOfMixedRecord f first (last_time None epochs) (before + record_lines epochs) rest fault
