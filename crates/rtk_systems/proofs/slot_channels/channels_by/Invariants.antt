use Rattle.rtk_systems.specs.SlotChannels.{IsChannelFound}
use Rattle.rtk_systems.proofs.ChannelLemmas.{SetsChannels}
use Rattle.rtk_systems.proofs.slot_channels.channels_by.Given as goal

abbrev pub invariant-loop-slot : goal.invariant-loop-slot
invariant-loop-slot l = SetsChannels (IsChannelFound l.surveys l.station l.taken l.own) l.slot l.channels
