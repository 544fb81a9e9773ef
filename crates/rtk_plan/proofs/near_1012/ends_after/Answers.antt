use Rattle.std.proofs.Common.{◌≡◌, ◌≤◌, ◌<◌, ◌+◌, ℕ, suc, min, List, length, get_or, drop, Option, None, sym, ap, ◌∙◌, arith}
use Rattle.rtk_survey.specs.declared.placing.Placed.{Placed}
use Rattle.rtk_survey.specs.declared.survey.CaptureSurvey.{CaptureSurvey}
use Rattle.rtk_plan.specs.Near1012.{ends_with_capture, ends_after}
use Rattle.rtk_plan.specs.declared.clock_dating.ClockDating.{ClockDating}
use Rattle.rtk_plan.specs.declared.near_1012.Ends.{Ends}
use Rattle.rtk_plan.proofs.EndsLemmas.{ends-end, ends-step}
use Rattle.rtk_plan.proofs.near_1012.ends_after.Goals as goal

pub returns : goal.returns
returns c =
    let past : min (length c.args.surveys.now) (length c.args.placed.now) ≤ c.loop-at.at = omega (arith, c.loop-at-test.false, c.min-count.ensures) in
    sym (ends-end c.args.way.now c.loop-at.ends c.args.surveys.now c.args.placed.now c.loop-at.at past) ∙ c.loop-at.invariant

pub loop-at-preserved : goal.loop-at-preserved
loop-at-preserved c =
    let way : ClockDating = c.args.way.now in
    let ss : List CaptureSurvey = c.args.surveys.now in
    let ps : List (Option Placed) = c.args.placed.now in
    let at : ℕ = c.loop-at.at in
    let step : at + 1 ≡ suc at = omega arith in
    let last : Ends = c.ends_with_capture-ends.result in
    let few : at < length ss = omega (arith, c.loop-at-test.true, c.min-count.ensures) in
    let placed : at < length ps = omega (arith, c.loop-at-test.true, c.min-count.ensures) in
    ap (λ (i : ℕ). ends_after way last (drop i ss) (drop i ps)) step
    ∙ ap (λ (e : Ends). ends_after way e (drop (suc at) ss) (drop (suc at) ps)) (c.ends_with_capture-ends.ensures
    ∙ ap (λ (s : CaptureSurvey). ends_with_capture way c.loop-at.ends s (get_or ps at None)) c.index-surveys-at.is)
    ∙ ends-step way c.loop-at.ends ss ps at c.index-surveys-at.result None few placed
    ∙ c.loop-at.invariant
