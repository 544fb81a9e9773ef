use Rattle.std.proofs.Common.{rules}
use Rattle.rtk_message.proofs.message.Message.tow.Goals as goal

pub returns-in-Arp1005 : goal.returns-in-Arp1005
returns-in-Arp1005 c = search rules depth 5 fits 300
