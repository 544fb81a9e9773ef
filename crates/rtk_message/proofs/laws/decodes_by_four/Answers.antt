use Rattle.rtk_message.proofs.AnyDecodedLemmas.{by_four, of_four, each_by_four}
use Rattle.rtk_message.proofs.laws.decodes_by_four.Goals as goal

pub returns-clause-same : goal.returns-clause-same
returns-clause-same c = λ bs r. (by_four bs r, of_four bs r)

pub returns-clause-each : goal.returns-clause-each
returns-clause-each c = each_by_four
