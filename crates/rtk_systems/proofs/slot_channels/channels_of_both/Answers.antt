use Rattle.std.proofs.Common.{arith}
use Rattle.rtk_systems.specs.SlotChannels.{IsJoinedChannel}
use Rattle.rtk_systems.proofs.ChannelLemmas.{sets-first, sets-next}
use Rattle.rtk_systems.proofs.slot_channels.channels_of_both.Goals as goal

pub loop-slot-init : goal.loop-slot-init
loop-slot-init c = sets-first (IsJoinedChannel c.args.given.now c.args.found.now) c.new-channels.result c.new-channels.ensures

pub joined_channel-channel-requires : goal.joined_channel-channel-requires
joined_channel-channel-requires c = let from = c.loop-slot.auto.slot in (omega (arith, from), omega (arith, c.loop-slot-test.true))

pub set_if-requires-clause-none : goal.set_if-requires-clause-none
set_if-requires-clause-none c =
    let from = c.loop-slot.auto.slot in
    c.loop-slot.invariant.others c.loop-slot.slot (omega (arith, from), omega (arith, c.loop-slot-test.true)) (omega arith)

pub loop-slot-preserved : goal.loop-slot-preserved
loop-slot-preserved c =
    sets-next (IsJoinedChannel c.args.given.now c.args.found.now) c.loop-slot.slot c.loop-slot.channels c.set_if.new.channels c.joined_channel-channel.result
    c.loop-slot.invariant c.joined_channel-channel.ensures c.set_if.ensures.own c.set_if.ensures.others

pub returns : goal.returns
returns c = λ slot is. let last = is.1 in c.loop-slot.invariant.own slot is (omega (arith, last, c.loop-slot-test.false))
