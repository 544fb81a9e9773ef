use Rattle.std.proofs.Common.{◌≡◌, take}
use Rattle.std.specs.List.{sum_by}
use Rattle.rtk_survey.specs.Counting.{shown_count}
use Rattle.rtk_survey.specs.WrongClocks.{count_if_right}
use Rattle.rtk_survey.proofs.wrong_clocks.right_clocks.Given as goal

abbrev pub invariant-loop-offset : goal.invariant-loop-offset
invariant-loop-offset l = l.count ≡ shown_count (sum_by (count_if_right l.leap_seconds) (take l.offset-index l.offsets))
