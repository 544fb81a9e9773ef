use Rattle.std.proofs.Common.{◌≡◌, ◌*◌, false, nat_lt}
use Rattle.std.specs.List.{list_any, range_with_len}
use Rattle.rtk_plan.specs.FewPhases.{phases_shared}
use Rattle.rtk_plan.proofs.few_phases.CapturePhases.has_few.Given as goal

abbrev pub invariant-loop-other : goal.invariant-loop-other
invariant-loop-other l =
    list_any (λ other. nat_lt (2 * phases_shared l.self.surveys.now l.self.station l.self.from l.code l.code) (phases_shared l.self.surveys.now l.self.station l.self.from l.code other)) (range_with_len 0 l.other)
    ≡ false
