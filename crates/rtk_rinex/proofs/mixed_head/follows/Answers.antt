use Rattle.std.proofs.Common.{arith}
use Rattle.rtk_rinex.proofs.MixedListLemmas.{at_place}
use Rattle.rtk_rinex.proofs.mixed_head.follows.Goals as goal

pub loop-i-preserved : goal.loop-i-preserved
loop-i-preserved c = at_place c.args.listed.now c.args.at c.loop-i.i (omega arith) c.requires c.loop-i.invariant (c.are_in_order.ensures.0 c.if-not-are_in_order.false)
