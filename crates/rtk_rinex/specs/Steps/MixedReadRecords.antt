-- The records of any systems that were read so far: they begin the text.
use Rattle.std.specs.Prelude.{◌≡◌, ℕ, List, ◌++◌, length, flat_map, Option, None, Bool, false, zero, suc, [], take, drop}
use Rattle.rtk_rinex.specs.Columns.{left}
use Rattle.rtk_rinex.specs.Record.{EpochTableView, code_text, code_width}
use Rattle.rtk_rinex.specs.Table.{IsObservedIn}
use Rattle.rtk_rinex.specs.MixedRecord.{mixed_satellite_line, mixed_record_text}
use Rattle.rtk_rinex.specs.MixedForm.{FormView}
use Rattle.rtk_rinex.specs.MixedTable.{IsMixedRow, IsMixedEpoch, HasNoPhase}
use Rattle.rtk_rinex.specs.CheckLine.{IsNextTime}
use Rattle.rtk_rinex.specs.CheckText.{satellite_lines}
use Rattle.rtk_rinex.specs.MixedCheckText.{AreMixedRows, AreMixedEpochs}
use Rattle.rtk_rinex.specs.Steps.ReadRecords.{IsEndOrRecord}
use Rattle.rtk_rinex.specs.declared.epoch_table.Observed.{Observed}
use Rattle.rtk_rinex.specs.declared.epoch_table.SatelliteRow.{SatelliteRow}

-- the columns of what a code can show, with Doppler shifts (true) or without them, and without a phase if there are
-- none; blanks at the end may be missing
abbrev pub IsMixedCell : Bool → Bool → List ℕ → Type 0
IsMixedCell doppler phases columns =
    (o : Observed) × IsObservedIn doppler o × (left (code_width doppler) columns ≡ code_text doppler o) × (phases ≡ false → HasNoPhase o)

-- the columns of n codes, one after another; blanks at the end may be missing
abbrev pub AreMixedCells : Bool → Bool → ℕ → List ℕ → Type 0
AreMixedCells doppler phases zero columns = columns ≡ []
AreMixedCells doppler phases (suc n) columns =
    IsMixedCell doppler phases (take (code_width doppler) columns) × AreMixedCells doppler phases n (drop (code_width doppler) columns)

-- the columns of n codes, one after another, whatever they may show; blanks at the end may be missing
abbrev pub AreCodes : Bool → ℕ → List ℕ → Type 0
AreCodes doppler zero columns = columns ≡ []
AreCodes doppler (suc n) columns =
    ((o : Observed) × IsObservedIn doppler o × (left (code_width doppler) (take (code_width doppler) columns) ≡ code_text doppler o))
    × AreCodes doppler n (drop (code_width doppler) columns)

-- the line of a row with this satellite
abbrev pub IsMixedRowLine : FormView → List ℕ → ℕ → Type 0
IsMixedRowLine f line s = (r : SatelliteRow) × IsMixedRow f r × (line ≡ mixed_satellite_line f.doppler r) × (r.satellite ≡ s)

-- the lines of `due` rows begin the text
pub record ReadsMixedRows (f : FormView) (due : ℕ) (bytes rest : List ℕ) : Type 0 where
  pub rows : List SatelliteRow
  pub are_rows : AreMixedRows f None rows
  pub count : length rows ≡ due
  pub text : bytes ≡ flat_map (mixed_satellite_line f.doppler) rows ++ rest

-- the record of some epoch begins the text
abbrev pub BeginsWithMixedRecord : FormView → List ℕ → Type 0
BeginsWithMixedRecord f bytes = (e : EpochTableView) × (rest : List ℕ) × IsMixedEpoch f e × (bytes ≡ mixed_record_text f.doppler e ++ rest)

-- the record of some epoch begins the text, and after it stands another record, or nothing
abbrev pub BeginsMixedRecords : FormView → List ℕ → Type 0
BeginsMixedRecords f bytes = (begins : BeginsWithMixedRecord f bytes) × IsEndOrRecord begins.1

-- the record of an epoch begins the text
pub record ReadsMixedRecord (f : FormView) (first : ℕ) (last : Option ℕ) (time due : ℕ) (bytes rest : List ℕ) : Type 0 where
  pub rows : List SatelliteRow
  pub is_epoch : IsMixedEpoch f (record { time = time; rows = rows })
  pub next : IsNextTime first last time
  pub count : length rows ≡ due
  pub text : bytes ≡ mixed_record_text f.doppler (record { time = time; rows = rows }) ++ rest

-- the text is a sequence of good records
pub record ReadsMixedRecords (f : FormView) (first records rows : ℕ) (bytes : List ℕ) : Type 0 where
  pub epochs : List EpochTableView
  pub are_epochs : AreMixedEpochs f first None epochs
  pub count : length epochs ≡ records
  pub satellites : satellite_lines epochs ≡ rows
  pub text : bytes ≡ flat_map (mixed_record_text f.doppler) epochs
