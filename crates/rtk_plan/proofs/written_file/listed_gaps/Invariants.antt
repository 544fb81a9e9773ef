use Rattle.std.proofs.Common.{◌≡◌, take}
use Rattle.rtk_survey.specs.Counting.{count_of}
use Rattle.rtk_plan.specs.WrittenFile.{is_gap}
use Rattle.rtk_plan.proofs.written_file.listed_gaps.Given as goal

abbrev pub invariant-loop-step : goal.invariant-loop-step
invariant-loop-step l = l.count ≡ count_of (is_gap l.greatest) (take l.step-index l.longest)
