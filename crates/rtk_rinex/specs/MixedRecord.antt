-- The record of an epoch in a file of any systems (RINEX 3.05, Table A3). A row has the index of its
-- satellite among those of all systems. The file has Doppler shifts (true), or none.
-- Source: RINEX 3.05, Table A3
use Rattle.std.specs.Prelude.{◌≡◌, ℕ, Bool, false, List, [], ◌∷◌, ◌++◌, length, drop}
use Rattle.std.specs.List.{flat_map, filter}
use Rattle.rtk_obs.specs.declared.time.Civil.{Civil}
use Rattle.rtk_obs.specs.SatelliteIndex.{index_name}
use Rattle.rtk_obs.specs.Reading.{reading_of}
use Rattle.rtk_rinex.specs.Record.{EpochTableView, IsEpochTableView, code_text, trim_end, epoch_line, has_line_in, record_text}
use Rattle.rtk_rinex.specs.RecordLines.{RecordLinesView, HasOpenLine, KeepsLines}
use Rattle.rtk_rinex.specs.declared.epoch_table.Observed.{Observed}
use Rattle.rtk_rinex.specs.declared.epoch_table.SatelliteRow.{SatelliteRow}

-- formula
-- the line of a satellite: its name, then its observations; blanks at the end are left out
abbrev pub mixed_satellite_line : Bool → SatelliteRow → List ℕ
mixed_satellite_line doppler r = trim_end (index_name r.satellite ++ flat_map (code_text doppler) r.observed.items) ++ 10 ∷ []

-- the epoch line and the lines of these satellites; nothing without satellites (this project's rule)
abbrev pub mixed_lines_of : Bool → Civil → List SatelliteRow → List ℕ
mixed_lines_of doppler c [] = []
mixed_lines_of doppler c (r ∷ rows) = epoch_line c (length (r ∷ rows)) ++ flat_map (mixed_satellite_line doppler) (r ∷ rows)

-- formula
-- the record of an epoch: the satellites without a line are left out (this project's rule)
unfoldable pub mixed_record_text : Bool → EpochTableView → List ℕ
mixed_record_text doppler e = mixed_lines_of doppler (reading_of e.time) (filter (has_line_in doppler) e.rows)

-- the record of satellites of GPS alone, without Doppler shifts, is the record in a file of GPS
abbrev pub GpsRecordsStay : Type 0
GpsRecordsStay = (e : EpochTableView) → IsEpochTableView e → mixed_record_text false e ≡ record_text e

-- ---- the text of a record that is written satellite by satellite

-- the text, and whether its lines show Doppler shifts
pub record MixedLinesView : Type 0 where
  pub lines : RecordLinesView
  pub doppler : Bool

-- after the epoch line the text has the lines of the satellites of these rows that have one
pub record HoldsMixedLines (l : MixedLinesView) (rows : List SatelliteRow) : Type 0 where
  pub lines : drop 36 l.lines.text ≡ flat_map (mixed_satellite_line l.doppler) (filter (has_line_in l.doppler) rows)
  pub count : l.lines.count ≡ length (filter (has_line_in l.doppler) rows)

-- the codes of the next line show these values
abbrev pub HasOpenMixedLine : MixedLinesView → List Observed → Type 0
HasOpenMixedLine l observed = HasOpenLine l.doppler l.lines observed

-- the text and the count are the same, and the lines show Doppler shifts or not as before
pub record KeepsMixedLines (old new : MixedLinesView) : Type 0 where
  pub lines : KeepsLines old.lines new.lines
  pub doppler : new.doppler ≡ old.doppler
