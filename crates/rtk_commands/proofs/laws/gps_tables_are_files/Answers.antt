use Rattle.rtk_commands.proofs.FileTableLemmas.{gps-tables}
use Rattle.rtk_commands.proofs.laws.gps_tables_are_files.Goals as goal

pub returns : goal.returns
returns c = gps-tables c.types_tell_shifts.ensures.gps
