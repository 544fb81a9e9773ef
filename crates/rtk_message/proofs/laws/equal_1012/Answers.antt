use Rattle.rtk_message.proofs.EqualLemmas.{obs1012_same}
use Rattle.rtk_message.proofs.laws.equal_1012.Goals as goal

pub returns : goal.returns
returns c = rw c.eq.ensures (obs1012_same c.args.a.now c.args.b.now)
