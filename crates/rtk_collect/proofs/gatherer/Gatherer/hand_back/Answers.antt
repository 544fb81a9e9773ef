use Rattle.std.proofs.Common.{rules}
use Rattle.rtk_collect.proofs.gatherer.Gatherer.hand_back.Goals as goal

pub invariant_of-self : goal.invariant_of-self
invariant_of-self g c = search rules depth 5 fits 300

pub returns : goal.returns
returns g c = search rules depth 5 fits 300
