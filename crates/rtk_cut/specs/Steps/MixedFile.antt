-- A file of any systems of which a part is written.
use Rattle.std.specs.Prelude.{◌≡◌, Bool, List}
use Rattle.rtk_rinex.specs.Header.{position_view}
use Rattle.rtk_rinex.specs.Record.{EpochTableView}
use Rattle.rtk_rinex.specs.MixedForm.{FormView}
use Rattle.rtk_rinex.specs.MixedRecords.{MixedRecordsView, MixedRowsView, AreMixedLeft, IsRecordOf}
use Rattle.rtk_rinex.specs.MixedTable.{MixedTable, IsMixedEpoch}
use Rattle.rtk_cut.specs.declared.mixed_file.MixedFile.{MixedFile}
use Rattle.rtk_cut.specs.Steps.FileTexts.{mixed_texts}

-- this is the record of an epoch of a file, of which no row was read
abbrev pub IsRecordIn : MixedRowsView → EpochTableView → Type 0
IsRecordIn r e = IsRecordOf e r × ((form : FormView) × IsMixedEpoch form e)

-- the same of a file with Doppler shifts (true), or without them
abbrev pub IsRecordWith : Bool → MixedRowsView → EpochTableView → Type 0
IsRecordWith doppler r e = IsRecordIn r e × (r.form.doppler ≡ doppler)

-- these are the epochs whose records are left of such a file
abbrev pub AreLeftIn : Bool → MixedRecordsView → List EpochTableView → Type 0
AreLeftIn doppler r epochs = AreMixedLeft r epochs × (r.form.doppler ≡ doppler)

-- it is the file of this table, and no record was read
pub record IsMixedFileOf (t : MixedTable) (f : MixedFile) : Type 0 where
  pub texts : mixed_texts f.heading.head (position_view f.heading.position) f.heading.first ≡ mixed_texts t.head t.site t.first
  pub left : AreLeftIn f.heading.head.doppler f.records t.epochs
