use Rattle.rtk_message.proofs.EqualLemmas.{fault_same}
use Rattle.rtk_message.proofs.laws.equal_faults.Goals as goal

pub returns : goal.returns
returns c = rw c.eq.ensures (fault_same c.args.a.now c.args.b.now)
