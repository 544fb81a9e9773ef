use Rattle.rtk_message.proofs.EqualLemmas.{msm_same}
use Rattle.rtk_message.proofs.laws.equal_msm.Goals as goal

pub returns : goal.returns
returns c = rw c.eq.ensures (msm_same c.args.a.now c.args.b.now)
