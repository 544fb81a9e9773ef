use Rattle.std.proofs.Common.{◌≡◌, take}
use Rattle.std.specs.List.{sum_by}
use Rattle.rtk_survey.specs.Counting.{shown_count}
use Rattle.rtk_systems.specs.AlikeChannels.{count_if_same}
use Rattle.rtk_systems.proofs.alike_channels.slots_among.Given as goal

abbrev pub invariant-loop-slot : goal.invariant-loop-slot
invariant-loop-slot l = l.count ≡ shown_count (sum_by (count_if_same l.channels l.channel) (take l.slot-index l.slots))
