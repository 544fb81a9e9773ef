use Rattle.std.proofs.Common.{◌≡◌, take}
use Rattle.std.specs.List.{sum_by}
use Rattle.rtk_survey.specs.ClockLines.{compared_clocks}
use Rattle.rtk_survey.specs.Counting.{shown_count}
use Rattle.rtk_systems.specs.ClockOffsets.{offsets_in_capture}
use Rattle.rtk_systems.proofs.clock_offsets.clocks_compared.Given as goal

abbrev pub invariant-loop-survey : goal.invariant-loop-survey
invariant-loop-survey l =
    l.count ≡ shown_count (sum_by (λ s. compared_clocks (offsets_in_capture l.station l.system s)) (take l.survey-index l.surveys))
