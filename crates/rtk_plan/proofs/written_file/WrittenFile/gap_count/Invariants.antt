use Rattle.std.proofs.Common.{◌≡◌, ◌≤◌, ◌+◌}
use Rattle.std.specs.List.{sum_by}
use Rattle.rtk_survey.specs.Counting.{shown_count}
use Rattle.rtk_plan.specs.WrittenFile.{count_if_longer, gap_count}
use Rattle.rtk_plan.proofs.written_file.WrittenFile.gap_count.Given as goal

-- the gaps so far and those of the steps that are left are all
abbrev pub invariant-loop-step : goal.invariant-loop-step
invariant-loop-step l = record {
  fits : l.gaps ≤ 18_446_744_073_709_551_615;
  held : shown_count (l.gaps + sum_by (λ e. count_if_longer l.greatest e.0 e.1) l.step-iterator) ≡ gap_count l.greatest l.self.steps.entries;
}
