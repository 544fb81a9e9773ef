use Rattle.rtk_message.proofs.EqualLemmas.{msm1074_same}
use Rattle.rtk_message.proofs.laws.equal_1074.Goals as goal

pub returns : goal.returns
returns c = rw c.eq.ensures (msm1074_same c.args.a.now c.args.b.now)
