use Rattle.std.proofs.Common.{◌≡◌, ◌∙◌, ℕ, Bool, List, Option, true, inl, inr, sym, ap, subst}
use Rattle.rtk_obs.specs.Dating.{IsReference}
use Rattle.rtk_survey.specs.declared.survey.CaptureSurvey.{CaptureSurvey}
use Rattle.rtk_plan.specs.Causes.{IsSetupCause, IsCaptureCause}
use Rattle.rtk_setup.specs.Setup.{SetupView}
use Rattle.rtk_plan.specs.Plan.{IsNear1012, HaveFarClocks, IsSetupFor, clock_seconds}
use Rattle.rtk_captures.specs.CaptureCauses.{AreTooMany, IsDatingCause}
use Rattle.rtk_survey.specs.Surveys.{places_of}
use Rattle.rtk_plan.specs.LinkPlaces.{AreLinksOf}
use Rattle.rtk_captures.specs.Dating.{IsInReach, IsNearOf}
use Rattle.rtk_captures.specs.declared.refusal.Refusal.{Refusal}
use Rattle.rtk_captures.specs.declared.refusal.Refusal.TheVariants.{Empty, NoCode, OutsideDates, NoRates, TooLong, TooManyLinks, PositionsDiffer}
use Rattle.rtk_captures.specs.declared.station_capture.StationCapture.{StationCapture}
use Rattle.rtk_plan.specs.declared.wanted.Wanted.{Wanted}
use Rattle.rtk_plan.proofs.RefusedLemmas.{exit-also}
use Rattle.rtk_plan.proofs.planning.plan_of_station.Goals as goal

-- what keeps captures with these links from having a setup
setup-cause : (ss : List CaptureSurvey) (links : List (List ℕ)) (w : Wanted) (skip_empty as_given : Bool) (station : ℕ) (cs : List StationCapture) (near : ℕ)
    → AreLinksOf as_given w.near ss station links → IsNearOf w.near cs near
    → (refusal : Refusal) → IsSetupCause ss links w station near refusal → IsCaptureCause ss w skip_empty as_given station cs refusal
setup-cause ss links w skip_empty as_given station cs near are first NoCode none = (links, are, (near, first, none))
setup-cause ss links w skip_empty as_given station cs near are first OutsideDates outside =
    (first.0, first.1, (first.2.0, first.2.1, inl (subst (λ (n : ℕ). ¬ (IsReference n)) first.2.2 outside)))
setup-cause ss links w skip_empty as_given station cs near are first (NoRates letter) lacks = (links, are, (near, first, lacks))
setup-cause ss links w skip_empty as_given station cs near are first other never = absurd never

-- there are too many of these links
links-cause : (ss : List CaptureSurvey) (links : List (List ℕ)) (w : Wanted) (skip_empty as_given : Bool) (station : ℕ) (cs : List StationCapture)
    → AreLinksOf as_given w.near ss station links → (refusal : Refusal) → AreTooMany links refusal → IsCaptureCause ss w skip_empty as_given station cs refusal
links-cause ss links w skip_empty as_given station cs are refusal many =
    subst (λ (r : Refusal). IsCaptureCause ss w skip_empty as_given station cs r) (sym many.0) (links, are, many.1)

-- what keeps captures from being dated
dating-cause : (ss : List CaptureSurvey) (w : Wanted) (skip_empty as_given : Bool) (station : ℕ) (cs : List StationCapture)
    → (refusal : Refusal) → IsDatingCause w.near cs refusal → IsCaptureCause ss w skip_empty as_given station cs refusal
dating-cause ss w skip_empty as_given station cs (Empty n) never = absurd never.2
dating-cause ss w skip_empty as_given station cs NoCode never = absurd never.2
dating-cause ss w skip_empty as_given station cs (NoRates letter) never = absurd never.2
dating-cause ss w skip_empty as_given station cs TooManyLinks never = absurd never.2
dating-cause ss w skip_empty as_given station cs PositionsDiffer never = absurd never.2
dating-cause ss w skip_empty as_given station cs TooLong long = inl long
dating-cause ss w skip_empty as_given station cs other cause = cause

-- clocks that give no epoch go further than this setup dates
clocks-cause : (ss : List CaptureSurvey) (links : List (List ℕ)) (w : Wanted) (skip_empty as_given : Bool) (station : ℕ) (cs : List StationCapture) (made : ℕ) (s : SetupView)
    → IsSetupFor ss links w made s → (refusal : Refusal) → (refusal ≡ TooLong) × HaveFarClocks ss w.near station s true
    → IsCaptureCause ss w skip_empty as_given station cs refusal
clocks-cause ss links w skip_empty as_given station cs made s set refusal far =
    subst (λ (r : Refusal). IsCaptureCause ss w skip_empty as_given station cs r) (sym far.0) (inr (links, (made, (s, set, far.1))))

pub returns-in_err-dating-clause-refused : goal.returns-in_err-dating-clause-refused
returns-in_err-dating-clause-refused c =
    let ss = c.args.captured.now.all.surveys.now in
    let w = c.args.wanted.now in
    let cs = c.args.captured.now.captures.now in
    exit-also (IsDatingCause w.near cs) (IsCaptureCause ss w c.args.skip_empty c.args.as_given c.args.captured.now.station cs)
    c.in_err-dating.field-0.0 c.from_residual-in_err-dating.result c.from_residual-in_err-dating.ensures.1
    (dating-cause ss w c.args.skip_empty c.args.as_given c.args.captured.now.station cs) c.in_err-dating.ensures.refused

pub returns-in_err-demand_near_clocks-clause-refused : goal.returns-in_err-demand_near_clocks-clause-refused
returns-in_err-demand_near_clocks-clause-refused c =
    let ss = c.args.captured.now.all.surveys.now in
    let w = c.args.wanted.now in
    let cs = c.args.captured.now.captures.now in
    let station = c.args.captured.now.station in
    exit-also (λ (r : Refusal). (r ≡ TooLong) × HaveFarClocks ss w.near station c.in_ok-setup.setup true)
    (IsCaptureCause ss w c.args.skip_empty c.args.as_given station cs)
    c.in_err-demand_near_clocks.field-0.0 c.from_residual-in_err-demand_near_clocks.result c.from_residual-in_err-demand_near_clocks.ensures.1
    (clocks-cause ss (places_of c.as_slice.result.now) w c.args.skip_empty c.args.as_given station cs c.args.made c.in_ok-setup.setup c.in_ok-setup.ensures.setup)
    c.in_err-demand_near_clocks.ensures.refused

pub returns-in_err-setup-clause-refused : goal.returns-in_err-setup-clause-refused
returns-in_err-setup-clause-refused c =
    let ss = c.args.captured.now.all.surveys.now in
    let w = c.args.wanted.now in
    let cs = c.args.captured.now.captures.now in
    let links = places_of c.as_slice.result.now in
    let same : links ≡ places_of c.in_ok-links.links.items = ap places_of c.as_slice.ensures.value in
    let are : AreLinksOf c.args.as_given w.near ss c.args.captured.now.station links =
    subst (λ (ls : List (List ℕ)). AreLinksOf c.args.as_given w.near ss c.args.captured.now.station ls) (sym same) c.in_ok-links.ensures in
    exit-also (IsSetupCause ss links w c.args.captured.now.station c.in_ok-dating.dating.near)
    (IsCaptureCause ss w c.args.skip_empty c.args.as_given c.args.captured.now.station cs)
    c.in_err-setup.field-0.0 c.from_residual-in_err-setup.result c.from_residual-in_err-setup.ensures.1
    (setup-cause ss links w c.args.skip_empty c.args.as_given c.args.captured.now.station cs c.in_ok-dating.dating.near are c.in_ok-dating.ensures.near)
    c.in_err-setup.ensures.refused

pub returns-in_err-limit_links-clause-refused : goal.returns-in_err-limit_links-clause-refused
returns-in_err-limit_links-clause-refused c =
    let ss = c.args.captured.now.all.surveys.now in
    let w = c.args.wanted.now in
    let cs = c.args.captured.now.captures.now in
    let links = places_of c.as_slice-2.result.now in
    let same : links ≡ places_of c.in_ok-links.links.items = ap places_of c.as_slice-2.ensures.value in
    let are : AreLinksOf c.args.as_given w.near ss c.args.captured.now.station links =
    subst (λ (ls : List (List ℕ)). AreLinksOf c.args.as_given w.near ss c.args.captured.now.station ls) (sym same) c.in_ok-links.ensures in
    exit-also (AreTooMany links) (IsCaptureCause ss w c.args.skip_empty c.args.as_given c.args.captured.now.station cs)
    c.in_err-limit_links.field-0.0 c.from_residual-in_err-limit_links.result c.from_residual-in_err-limit_links.ensures.1
    (links-cause ss links w c.args.skip_empty c.args.as_given c.args.captured.now.station cs are)
    c.in_err-limit_links.ensures.refused

-- the captures are those of the station
pub setup_near-requires-clause-near : goal.setup_near-requires-clause-near
setup_near-requires-clause-near c =
    subst (λ (cs : List StationCapture). IsNearOf c.args.wanted.now.near cs c.in_ok-dating.dating.near) c.requires.captures c.in_ok-dating.ensures.near

-- the moment near which all are dated is in reach
pub returns-clause-in_reach : goal.returns-clause-in_reach
returns-clause-in_reach c =
    subst (λ (cs : List StationCapture). IsInReach c.args.wanted.now.near cs c.in_ok-setup.setup.near) (sym c.requires.captures) c.in_ok-setup.ensures.in_reach

-- leap seconds are those of the setup, else those at the first moment
pub returns-clause-leap_seconds : goal.returns-clause-leap_seconds
returns-clause-leap_seconds c = (
  c.in_ok-dating.dating.near,
  c.in_ok-dating.ensures.near,
  c.seconds_compared.ensures ∙ ap (λ (o : Option ℕ). clock_seconds o c.in_ok-dating.dating.near) (sym c.in_ok-setup.ensures.seconds),
)

pub returns-clause-has_near_1012 : goal.returns-clause-has_near_1012
returns-clause-has_near_1012 c =
    let ss = c.args.captured.now.all.surveys.now in
    let given = c.args.wanted.now.near in
    let station = c.args.captured.now.station in
    let first = c.in_ok-dating.dating.near in (
      first,
      subst (λ (cs : List StationCapture). IsNearOf given cs first) c.requires.captures c.in_ok-dating.ensures.near,
      (
        c.near_of_1012-other.result,
        subst (λ (o : Option ℕ). IsNear1012 ss given station o first c.near_of_1012-other.result) (sym c.in_ok-setup.ensures.seconds) c.near_of_1012-other.ensures.near,
        c.is_some.ensures,
      ),
    )
