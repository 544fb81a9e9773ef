use Rattle.std.proofs.Common.{arith, Some}
use Rattle.rtk_systems.specs.SlotChannels.{IsToldChannel}
use Rattle.rtk_systems.proofs.ChannelLemmas.{sets-first, sets-next}
use Rattle.rtk_systems.proofs.slot_channels.channels_told.Goals as goal

pub loop-slot-init : goal.loop-slot-init
loop-slot-init c = sets-first (IsToldChannel c.args.surveys.now c.args.station c.args.taken (Some c.args.station)) c.new-channels.result c.new-channels.ensures

pub channel_told-channel-requires : goal.channel_told-channel-requires
channel_told-channel-requires c = let from = c.loop-slot.auto.slot in (omega (arith, from), omega (arith, c.loop-slot-test.true))

pub set_if-requires-clause-none : goal.set_if-requires-clause-none
set_if-requires-clause-none c =
    let from = c.loop-slot.auto.slot in
    c.loop-slot.invariant.others c.loop-slot.slot (omega (arith, from), omega (arith, c.loop-slot-test.true)) (omega arith)

pub loop-slot-preserved : goal.loop-slot-preserved
loop-slot-preserved c =
    sets-next (IsToldChannel c.args.surveys.now c.args.station c.args.taken (Some c.args.station)) c.loop-slot.slot c.loop-slot.channels c.set_if.new.channels c.channel_told-channel.result
    c.loop-slot.invariant c.channel_told-channel.ensures c.set_if.ensures.own c.set_if.ensures.others

pub returns : goal.returns
returns c = λ slot is. let last = is.1 in c.loop-slot.invariant.own slot is (omega (arith, last, c.loop-slot-test.false))
