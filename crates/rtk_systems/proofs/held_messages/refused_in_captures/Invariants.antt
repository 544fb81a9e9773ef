use Rattle.std.proofs.Common.{◌≡◌, take}
use Rattle.std.specs.List.{sum_by}
use Rattle.rtk_survey.specs.Counting.{shown_count}
use Rattle.rtk_systems.specs.Values.{refused_in_capture}
use Rattle.rtk_systems.proofs.held_messages.refused_in_captures.Given as goal

abbrev pub invariant-loop-survey : goal.invariant-loop-survey
invariant-loop-survey l = l.count ≡ shown_count (sum_by (refused_in_capture l.number) (take l.survey-index l.surveys))
