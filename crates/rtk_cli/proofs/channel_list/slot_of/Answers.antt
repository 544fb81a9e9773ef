use Rattle.std.proofs.Common.{get_or, arith}
use Rattle.rtk_cli.proofs.ChannelLemmas.{one-digit, alone}
use Rattle.rtk_cli.proofs.channel_list.slot_of.Goals as goal

pub returns-in-len1 : goal.returns-in-len1
returns-in-len1 c = one-digit c.slot_of_one.result c.args.text.now (get_or c.args.text.now 0 0) (alone c.args.text.now (omega arith)) c.slot_of_one.ensures
