-- The rows of a record and the records of a file, of which the next one is known.
use Rattle.std.specs.Prelude.{◌≡◌, ℕ, ◌+◌, List, [], ◌∷◌, length, Option, None, Some}
use Rattle.rtk_rinex.specs.Record.{EpochTableView}
use Rattle.rtk_rinex.specs.MixedForm.{FormView}
use Rattle.rtk_rinex.specs.MixedTable.{IsMixedEpoch}
use Rattle.rtk_rinex.specs.MixedRecords.{MixedRowsView, AreRowsLeft, AreMixedLeft, IsRecordOf}
use Rattle.rtk_rinex.specs.declared.epoch_table.Observed.{Observed}
use Rattle.rtk_rinex.specs.declared.epoch_table.SatelliteRow.{SatelliteRow}
use Rattle.rtk_compare.specs.declared.row_reader.RowReader.{RowReader}
use Rattle.rtk_compare.specs.declared.record_reader.RecordReader.{RecordReader}

-- ---- rows

-- these are the rows that are left, which are none without a record
abbrev pub AreRowsOf : Option MixedRowsView → List SatelliteRow → Type 0
AreRowsOf None rows = rows ≡ []
AreRowsOf (Some left) rows = AreRowsLeft left rows

-- what reading the next of these rows gives: its satellite and what its codes show, and the others are left
abbrev pub GivesNextRow : Option ℕ → List SatelliteRow → Option MixedRowsView → List Observed → Type 0
GivesNextRow None rows left observed = rows ≡ []
GivesNextRow (Some s) [] left observed = ⊥
GivesNextRow (Some s) (row ∷ rows) left observed = (s ≡ row.satellite) × (observed ≡ row.observed.items) × AreRowsOf left rows

-- the first of these rows is the next one, and the others are left
abbrev pub IsAtRows : RowReader → List SatelliteRow → Type 0
IsAtRows r [] = r.satellite ≡ None
IsAtRows r (row ∷ rows) = (r.satellite ≡ Some row.satellite) × (r.observed.items ≡ row.observed.items) × AreRowsOf r.rows rows

abbrev pub some_count : {A : Type 0} → Option A → ℕ
some_count None = 0
some_count (Some x) = 1

abbrev pub count_of : Option MixedRowsView → ℕ
count_of None = 0
count_of (Some left) = left.count

-- how many rows are left, the next one included
abbrev pub rows_left : RowReader → ℕ
rows_left r = some_count r.satellite + count_of r.rows

-- ---- records

abbrev pub time_of : Option MixedRowsView → Option ℕ
time_of None = None
time_of (Some rows) = Some rows.time

-- the record is that of this epoch of a file, and no row of it was read
abbrev pub IsRecordIn : Option MixedRowsView → EpochTableView → Type 0
IsRecordIn None e = ⊥
IsRecordIn (Some rows) e = IsRecordOf e rows × ((form : FormView) × IsMixedEpoch form e)

-- the record of the first of these epochs is the next one, and the others are left
abbrev pub IsAtEpochs : RecordReader → List EpochTableView → Type 0
IsAtEpochs r [] = r.next ≡ None
IsAtEpochs r (e ∷ epochs) = IsRecordIn r.next e × AreMixedLeft r.records epochs

-- how much is left, the next record included
abbrev pub records_left : RecordReader → ℕ
records_left r = some_count r.next + length r.records.text
