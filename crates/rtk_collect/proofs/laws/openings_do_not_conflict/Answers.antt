use Rattle.rtk_collect.proofs.OpeningLemmas.{opening-conflicts-not, closing-conflicts-not}
use Rattle.rtk_collect.proofs.laws.openings_do_not_conflict.Goals as goal

pub returns-clause-opens : goal.returns-clause-opens
returns-clause-opens c = opening-conflicts-not

pub returns-clause-closes : goal.returns-clause-closes
returns-clause-closes c = closing-conflicts-not
