use Rattle.std.proofs.Common.{ℕ, Some, ap, ◌∙◌}
use Rattle.rtk_obs.proofs.PublicLaws.{reading_is}
use Rattle.rtk_tracking.specs.Interval.{missing_before}
use Rattle.rtk_quality.proofs.GapLemmas.{gap-is}
use Rattle.rtk_quality.proofs.gaps.gap_between.Goals as goal

pub returns : goal.returns
returns c =
    let last : ℕ = c.in-Some.last in
    gap-is c.args.unit_ms last c.args.time c.missing_between-missing.result c.args.last c.civil.result c.civil-2.result c.in-Some.is
    (reading_is _ _ c.civil.ensures.reading) (reading_is _ _ c.civil-2.ensures.reading)
    (c.missing_between-missing.ensures
    ∙ ap (λ (n : ℕ). missing_before c.args.unit_ms (Some n) c.ms-2.result) c.ms.ensures.value
    ∙ ap (λ (n : ℕ). missing_before c.args.unit_ms (Some last) n) c.ms-2.ensures.value) c.if-missing-eq0.false
