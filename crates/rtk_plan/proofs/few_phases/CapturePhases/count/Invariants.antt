use Rattle.std.proofs.Common.{◌≡◌, drop}
use Rattle.rtk_survey.specs.Phases.{no_phases}
use Rattle.rtk_plan.specs.FewPhases.{counts_after}
use Rattle.rtk_plan.proofs.few_phases.CapturePhases.count.Given as goal

abbrev pub invariant-loop-survey : goal.invariant-loop-survey
invariant-loop-survey l =
    counts_after l.count l.self.station l.source l.bit l.code (drop l.survey-index l.self.surveys.now)
    ≡ counts_after no_phases l.self.station l.source l.bit l.code l.self.surveys.now
