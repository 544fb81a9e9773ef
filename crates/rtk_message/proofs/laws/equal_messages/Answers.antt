use Rattle.rtk_message.proofs.EqualLemmas.{message_same}
use Rattle.rtk_message.proofs.laws.equal_messages.Goals as goal

pub returns : goal.returns
returns c = rw c.eq.ensures (message_same c.args.a.now c.args.b.now)
