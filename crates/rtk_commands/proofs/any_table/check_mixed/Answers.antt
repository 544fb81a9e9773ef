use Rattle.rtk_commands.proofs.FileTableLemmas.{mixed-some, mixed-holds, mixed-none}
use Rattle.rtk_commands.proofs.any_table.check_mixed.Goals as goal

pub returns-in-Ok-clause-table : goal.returns-in-Ok-clause-table
returns-in-Ok-clause-table c = mixed-some c.args.text.now _ _ c.requires c.in-Ok.ensures.table

pub returns-in-Err-clause-none : goal.returns-in-Err-clause-none
returns-in-Err-clause-none c = mixed-none c.args.text.now c.requires c.in-Err.ensures.none

pub returns-in-Ok-clause-counts : goal.returns-in-Ok-clause-counts
returns-in-Ok-clause-counts c = mixed-holds c.args.text.now _ _ c.requires c.in-Ok.ensures.table
