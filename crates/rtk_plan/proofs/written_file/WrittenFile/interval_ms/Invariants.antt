use Rattle.std.proofs.Common.{◌≡◌}
use Rattle.rtk_plan.specs.WrittenFile.{most_frequent}
use Rattle.rtk_plan.proofs.written_file.WrittenFile.interval_ms.Given as goal

-- the step so far, and those that are left
abbrev pub invariant-loop-step : goal.invariant-loop-step
invariant-loop-step l = most_frequent l.interval l.most l.step-iterator ≡ most_frequent 0 0 l.self.steps.entries
