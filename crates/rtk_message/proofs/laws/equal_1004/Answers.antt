use Rattle.rtk_message.proofs.EqualLemmas.{obs1004_same}
use Rattle.rtk_message.proofs.laws.equal_1004.Goals as goal

pub returns : goal.returns
returns c = rw c.eq.ensures (obs1004_same c.args.a.now c.args.b.now)
