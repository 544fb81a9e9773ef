-- A file of GPS of which a part is written.
use Rattle.std.specs.Prelude.{◌≡◌, length}
use Rattle.rtk_rinex.specs.Header.{position_view}
use Rattle.rtk_rinex.specs.Records.{AreLeft}
use Rattle.rtk_rinex.specs.Table.{WellFormedTable}
use Rattle.rtk_cut.specs.declared.gps_file.GpsFile.{GpsFile}
use Rattle.rtk_cut.specs.Steps.FileTexts.{gps_texts}

-- it is the file of this table, and no record was read
pub record IsFileOf (t : WellFormedTable) (f : GpsFile) : Type 0 where
  pub texts : gps_texts f.heading.head (position_view f.heading.position) f.heading.first ≡ gps_texts t.head t.site t.first
  pub width : f.records.code_count ≡ length f.heading.head.listed
  pub left : AreLeft f.records t.epochs
