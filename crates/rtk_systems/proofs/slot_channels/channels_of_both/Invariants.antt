use Rattle.rtk_systems.specs.SlotChannels.{IsJoinedChannel}
use Rattle.rtk_systems.proofs.ChannelLemmas.{SetsChannels}
use Rattle.rtk_systems.proofs.slot_channels.channels_of_both.Given as goal

abbrev pub invariant-loop-slot : goal.invariant-loop-slot
invariant-loop-slot l = SetsChannels (IsJoinedChannel l.given l.found) l.slot l.channels
