use Rattle.std.proofs.Common.{◌≡◌, ◌≤◌, ◌*◌, ◌-◌, ℕ}
use Rattle.std.specs.List.{sum_by, range_with_len}
use Rattle.rtk_plan.specs.FewPhases.{phases_of}
use Rattle.rtk_plan.specs.Steps.PhaseMarks.{MarksSatellites}
use Rattle.rtk_plan.proofs.few_phases.CapturePhases.phases_shared.Given as goal

abbrev pub invariant-loop-bit : goal.invariant-loop-bit
invariant-loop-bit l =
    (l.phases ≤ 18_446_744_073_709_551_615 * (l.bit - 1))
    × ((code : ℕ) → MarksSatellites l.self.surveys.now l.self.station l.self.from code l.marks
    → l.phases ≡ sum_by (phases_of l.self.surveys.now l.self.station l.self.from code l.other) (range_with_len 1 (l.bit - 1)))
