use Rattle.std.proofs.Common.{◌≡◌, take}
use Rattle.std.specs.List.{sum_by}
use Rattle.rtk_survey.specs.Counting.{shown_count}
use Rattle.rtk_systems.specs.SlotChannels.{fields_of_1020}
use Rattle.rtk_systems.proofs.slot_channels.count_of_1020.Given as goal

abbrev pub invariant-loop-survey : goal.invariant-loop-survey
invariant-loop-survey l = l.count ≡ shown_count (sum_by (fields_of_1020 l.slot l.field) (take l.survey-index l.surveys))
