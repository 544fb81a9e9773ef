use Rattle.rtk_systems.specs.SlotChannels.{count_told}
use Rattle.rtk_systems.proofs.ChannelLemmas.{IsToldSoFar}
use Rattle.rtk_systems.proofs.slot_channels.told_field.Given as goal

abbrev pub invariant-loop-field : goal.invariant-loop-field
invariant-loop-field l = IsToldSoFar (count_told l.surveys l.source l.slot) l.field l.told
