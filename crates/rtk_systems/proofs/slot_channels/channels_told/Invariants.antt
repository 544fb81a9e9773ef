use Rattle.std.proofs.Common.{Some}
use Rattle.rtk_systems.specs.SlotChannels.{IsToldChannel}
use Rattle.rtk_systems.proofs.ChannelLemmas.{SetsChannels}
use Rattle.rtk_systems.proofs.slot_channels.channels_told.Given as goal

abbrev pub invariant-loop-slot : goal.invariant-loop-slot
invariant-loop-slot l = SetsChannels (IsToldChannel l.surveys l.station l.taken (Some l.station)) l.slot l.channels
