use Rattle.rtk_rinex.proofs.GpsHeaderLemmas.{gps_stay}
use Rattle.rtk_rinex.proofs.GpsRecordLemmas.{gps_records}
use Rattle.rtk_rinex.proofs.laws.gps_files_stay.Goals as goal

pub returns-clause-header : goal.returns-clause-header
returns-clause-header c = gps_stay

pub returns-clause-records : goal.returns-clause-records
returns-clause-records c = gps_records
