use Rattle.rtk_convert.proofs.PayloadLemmas.{calls-table}
use Rattle.rtk_convert.proofs.laws.calls_come_to_table.Goals as goal

pub returns : goal.returns
returns c = calls-table
