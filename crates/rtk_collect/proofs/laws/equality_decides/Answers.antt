use Rattle.rtk_collect.proofs.EqualityLemmas.{keys-are-distinct, equality-decides}
use Rattle.rtk_collect.proofs.laws.equality_decides.Goals as goal

pub returns-clause-keys : goal.returns-clause-keys
returns-clause-keys c = keys-are-distinct

pub returns-clause-bodies : goal.returns-clause-bodies
returns-clause-bodies c = equality-decides
