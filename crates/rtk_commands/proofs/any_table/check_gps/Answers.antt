use Rattle.rtk_commands.proofs.FileTableLemmas.{gps-some, gps-holds, gps-none}
use Rattle.rtk_commands.proofs.any_table.check_gps.Goals as goal

pub returns-in-Ok-clause-table : goal.returns-in-Ok-clause-table
returns-in-Ok-clause-table c = gps-some c.args.text.now _ _ c.requires c.in-Ok.ensures.table

pub returns-in-Err-clause-none : goal.returns-in-Err-clause-none
returns-in-Err-clause-none c = gps-none c.args.text.now c.requires c.in-Err.ensures.none

pub returns-in-Ok-clause-counts : goal.returns-in-Ok-clause-counts
returns-in-Ok-clause-counts c = gps-holds c.args.text.now _ _ c.requires c.in-Ok.ensures.table
