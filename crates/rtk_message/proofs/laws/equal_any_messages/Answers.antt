use Rattle.rtk_message.proofs.EqualLemmas.{any_message_same}
use Rattle.rtk_message.proofs.laws.equal_any_messages.Goals as goal

pub returns : goal.returns
returns c = rw c.eq.ensures (any_message_same c.args.a.now c.args.b.now)
