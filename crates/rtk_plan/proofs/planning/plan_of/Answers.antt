use Rattle.std.proofs.Common.{false, List, ℕ, sym, subst, ◌∙◌}
use Rattle.rtk_captures.specs.declared.station_capture.StationCapture.{StationCapture}
use Rattle.rtk_captures.specs.Dating.{AreStrays, IsInReach, IsSpanOf}
use Rattle.rtk_survey.specs.Surveys.{places_of}
use Rattle.rtk_plan.specs.LinkPlaces.{AreLinksOf}
use Rattle.rtk_plan.specs.Causes.{IsCaptureCause, IsCauseOf}
use Rattle.rtk_plan.specs.Plan.{AreSecondsCompared, HasNear1012, HaveFarClocks}
use Rattle.rtk_plan.proofs.RefusedLemmas.{exit-also, chosen-cause}
use Rattle.rtk_plan.proofs.planning.plan_of.Goals as goal

pub returns-clause-strays : goal.returns-clause-strays
returns-clause-strays c =
    subst (λ (cs : List StationCapture). AreStrays c.args.wanted.now.near cs c.in_ok-plan.plan.strays.items) c.as_slice.ensures.value
    c.in_ok-plan.ensures.strays

pub returns-clause-span : goal.returns-clause-span
returns-clause-span c =
    subst (λ (cs : List StationCapture). IsSpanOf c.args.wanted.now.near cs c.in_ok-plan.plan.setup.station c.in_ok-plan.plan.span) c.as_slice.ensures.value
    (subst (λ (n : ℕ). IsSpanOf c.args.wanted.now.near c.as_slice.result.now n c.in_ok-plan.plan.span) (sym c.in_ok-plan.ensures.station) c.in_ok-plan.ensures.span)

pub returns-clause-leap_seconds : goal.returns-clause-leap_seconds
returns-clause-leap_seconds c =
    subst (λ (cs : List StationCapture). AreSecondsCompared c.args.wanted.now.near cs c.in_ok-plan.plan.setup.leap_seconds c.in_ok-plan.plan.leap_seconds) c.as_slice.ensures.value
    c.in_ok-plan.ensures.leap_seconds

pub returns-clause-has_near_1012 : goal.returns-clause-has_near_1012
returns-clause-has_near_1012 c =
    subst (λ (n : ℕ). HasNear1012 c.args.captures.now.surveys.now c.args.wanted.now.near n c.in_ok-plan.plan.setup.leap_seconds c.in_ok-plan.plan.has_near_1012) (sym c.in_ok-plan.ensures.station)
    c.in_ok-plan.ensures.has_near_1012

pub returns-clause-clocks : goal.returns-clause-clocks
returns-clause-clocks c =
    subst (λ (n : ℕ). HaveFarClocks c.args.captures.now.surveys.now c.args.wanted.now.near n c.in_ok-plan.plan.setup false) (sym c.in_ok-plan.ensures.station)
    c.in_ok-plan.ensures.clocks

pub returns-clause-links : goal.returns-clause-links
returns-clause-links c =
    subst (λ (n : ℕ). AreLinksOf c.args.as_given c.args.wanted.now.near c.args.captures.now.surveys.now n (places_of c.in_ok-plan.plan.links.items)) (sym c.in_ok-plan.ensures.station)
    c.in_ok-plan.ensures.links

pub returns-clause-in_reach : goal.returns-clause-in_reach
returns-clause-in_reach c =
    subst (λ (cs : List StationCapture). IsInReach c.args.wanted.now.near cs c.in_ok-plan.plan.setup.near) c.as_slice.ensures.value
    c.in_ok-plan.ensures.in_reach

pub returns-in_err-plan-clause-refused : goal.returns-in_err-plan-clause-refused
returns-in_err-plan-clause-refused c =
    let ss = c.args.captures.now.surveys.now in
    let w = c.args.wanted.now in
    let station = c.in_ok-station.station in
    exit-also (IsCaptureCause ss w c.args.skip_empty c.args.as_given station c.as_slice.result.now) (IsCauseOf ss w c.args.skip_empty c.args.as_given)
    c.in_err-plan.field-0.0 c.from_residual-in_err-plan.result c.from_residual-in_err-plan.ensures.1
    (chosen-cause ss w c.args.skip_empty c.args.as_given station c.as_slice.result.now c.in_ok-station.ensures.chosen (c.as_slice.ensures.value ∙ c.in_ok-of_station.ensures))
    c.in_err-plan.ensures.refused
