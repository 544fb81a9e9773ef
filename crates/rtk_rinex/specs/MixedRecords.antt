-- The records of a file of any systems that are still to be read, and the rows of a record.
use Rattle.std.specs.Prelude.{◌≡◌, ◌≤◌, ℕ, suc, List, [], ◌∷◌, length, flat_map, All}
use Rattle.rtk_rinex.specs.Record.{EpochTableView}
use Rattle.rtk_rinex.specs.MixedRecord.{mixed_satellite_line, mixed_record_text}
use Rattle.rtk_rinex.specs.MixedForm.{FormView}
use Rattle.rtk_rinex.specs.MixedTable.{IsMixedRow, IsMixedEpoch}
use Rattle.rtk_rinex.specs.declared.epoch_table.SatelliteRow.{SatelliteRow}

-- what is left of the text of a file of this form
pub record MixedRecordsView : Type 0 where
  pub form : FormView
  pub text : List ℕ

-- formula
-- these are the epochs whose records are left
pub record AreMixedLeft (r : MixedRecordsView) (epochs : List EpochTableView) : Type 0 where
  pub are_epochs : All (IsMixedEpoch r.form) epochs
  pub text : r.text ≡ flat_map (mixed_record_text r.form.doppler) epochs

-- what is left are the records of some epochs
abbrev pub IsMixedRecordsView : MixedRecordsView → Type 0
IsMixedRecordsView r = ∥ ((epochs : List EpochTableView) × AreMixedLeft r epochs) ∥₁

-- a record of a file of this form: its moment, its text, and the lines that are left of this number of rows
pub record MixedRowsView : Type 0 where
  pub form : FormView
  pub time : ℕ
  pub text : List ℕ
  pub lines : List ℕ
  pub count : ℕ

-- formula
-- these are the rows whose lines are left
pub record AreRowsLeft (r : MixedRowsView) (rows : List SatelliteRow) : Type 0 where
  pub are_rows : All (IsMixedRow r.form) rows
  pub count : length rows ≡ r.count
  pub text : r.lines ≡ flat_map (mixed_satellite_line r.form.doppler) rows

-- what is left are the lines of some rows, which are at most as many as satellites of all systems
abbrev pub IsMixedRowsView : MixedRowsView → Type 0
IsMixedRowsView r = (r.count ≤ 221) × ∥ ((rows : List SatelliteRow) × AreRowsLeft r rows) ∥₁

-- formula
-- this is the record of an epoch, of which no row was read
pub record IsRecordOf (e : EpochTableView) (r : MixedRowsView) : Type 0 where
  pub time : r.time ≡ e.time
  pub text : r.text ≡ mixed_record_text r.form.doppler e
  pub rows : AreRowsLeft r e.rows

-- formula
-- this is the record of the first of these epochs, and the others are left
abbrev pub IsNextRecordOf : List EpochTableView → MixedRowsView → MixedRecordsView → Type 0
IsNextRecordOf [] record_read left = ⊥
IsNextRecordOf (e ∷ epochs) record_read left = IsRecordOf e record_read × AreMixedLeft left epochs

-- formula
-- this is the first of these rows, and the others are left
abbrev pub IsNextRowOf : List SatelliteRow → SatelliteRow → MixedRowsView → Type 0
IsNextRowOf [] row left = ⊥
IsNextRowOf (r ∷ rows) row left = (row ≡ r) × AreRowsLeft left rows

-- a row is read, and no more of the record changes
pub record ReadsRow (old new : MixedRowsView) : Type 0 where
  pub form : new.form ≡ old.form
  pub time : new.time ≡ old.time
  pub text : new.text ≡ old.text
  pub count : old.count ≡ suc new.count
