use Rattle.rtk_commands.proofs.LawLemmas.{line-once, line-once-by}
use Rattle.rtk_commands.proofs.laws.one_line_of_a_payload.Goals as goal

pub returns-clause-of_show : goal.returns-clause-of_show
returns-clause-of_show c = line-once

pub returns-clause-by_set : goal.returns-clause-by_set
returns-clause-by_set c = line-once-by
