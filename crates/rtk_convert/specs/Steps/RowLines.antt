-- The text of a record, whose lines are written code by code.
use Rattle.std.specs.Prelude.{◌≡◌, ℕ, Bool, true, false, ◌<◌, ◌≤◌, List, length, All}
use Rattle.rtk_rinex.specs.declared.epoch_table.Observed.{Observed}
use Rattle.rtk_rinex.specs.declared.epoch_table.SatelliteRow.{SatelliteRow}
use Rattle.rtk_rinex.specs.RecordLines.{RecordLinesView, HoldsLines, HasOpenLine, IsFreeIn}
use Rattle.rtk_rinex.specs.MixedRecord.{MixedLinesView, HoldsMixedLines, HasOpenMixedLine}

-- the rows stay, with Doppler shifts or without them
abbrev pub Keeps : {L : Type 0} → (L → Bool → List SatelliteRow → Type 0) → L → L → Type 0
Keeps HasRows old new = (doppler : Bool) (rows : List SatelliteRow) → HasRows old doppler rows → HasRows new doppler rows

-- there are fewer rows than satellites that can have one
abbrev pub HasRoom : {L : Type 0} → (L → Bool → List SatelliteRow → Type 0) → ℕ → L → Type 0
HasRoom HasRows greatest lines = (doppler : Bool) × (rows : List SatelliteRow) × HasRows lines doppler rows × (length rows < greatest)

-- a line is open in which the code at this place shows nothing, also no Doppler shift
abbrev pub HasFree : {L : Type 0} → (L → List Observed → Type 0) → L → ℕ → Type 0
HasFree HasLine lines place = (row : List Observed) × HasLine lines row × IsFreeIn true row place

-- the text has the lines of these rows, which are of satellites of GPS
pub record HoldsGpsLines (lines : RecordLinesView) (rows : List SatelliteRow) : Type 0 where
  pub holds : HoldsLines lines rows
  pub satellites : All (λ r. r.satellite ≤ 32) rows

-- the same, without Doppler shifts
pub record HasGpsRows (lines : RecordLinesView) (doppler : Bool) (rows : List SatelliteRow) : Type 0 where
  pub holds : HoldsGpsLines lines rows
  pub plain : doppler ≡ false

-- the text has the lines of these rows, with Doppler shifts or without them
pub record HasMixedRows (lines : MixedLinesView) (doppler : Bool) (rows : List SatelliteRow) : Type 0 where
  pub holds : HoldsMixedLines lines rows
  pub shows : lines.doppler ≡ doppler

-- a line of a satellite of GPS is open whose codes show this, without Doppler shifts
pub record HasGpsLine (doppler : Bool) (lines : RecordLinesView) (row : List Observed) : Type 0 where
  pub plain : doppler ≡ false
  pub open_line : HasOpenLine false lines row

-- a line is open whose codes show this, with Doppler shifts or without them
pub record HasMixedLine (doppler : Bool) (lines : MixedLinesView) (row : List Observed) : Type 0 where
  pub shows : lines.doppler ≡ doppler
  pub open_line : HasOpenMixedLine lines row
