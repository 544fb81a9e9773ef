use Rattle.std.proofs.Common.{◌≡◌, take}
use Rattle.std.specs.List.{sum_by}
use Rattle.rtk_survey.specs.Counting.{shown_count}
use Rattle.rtk_systems.specs.SeveralChannels.{count_if_told}
use Rattle.rtk_systems.proofs.several_channels.told_among.Given as goal

abbrev pub invariant-loop-field : goal.invariant-loop-field
invariant-loop-field l = l.count ≡ shown_count (sum_by (count_if_told l.surveys l.station l.own l.slot) (take l.field-index l.fields))
