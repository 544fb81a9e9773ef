-- Whether clocks that give no epoch go further than a conversion dates.
use Rattle.std.proofs.Common.{◌≡◌, ◌∙◌, ℕ, Bool, List, Option, sym, ap}
use Rattle.rtk_setup.specs.Setup.{SetupView}
use Rattle.rtk_survey.specs.declared.placing.Placed.{Placed}
use Rattle.rtk_survey.specs.declared.survey.CaptureSurvey.{CaptureSurvey}
use Rattle.rtk_systems.specs.SlotChannels.{AreSecondsChosen}
use Rattle.rtk_captures.specs.Dating.{ArePlaced, IsNearOf, IsSpanOf, captures_of}
use Rattle.rtk_captures.specs.declared.span_line.DatedSpan.{DatedSpan}
use Rattle.rtk_plan.specs.ClockDating.{midway, clock_dating}
use Rattle.rtk_plan.specs.ClockReach.{clocks_taken, has_far_clock}
use Rattle.rtk_plan.specs.Plan.{HaveFarClocks}
use Rattle.rtk_plan.specs.declared.clock_dating.ClockDating.{ClockDating}
use Rattle.rtk_plan.specs.declared.clock_reach.TakenClocks.{TakenClocks}

pub far-clocks : (ss : List CaptureSurvey) (given : Option ℕ) (station : ℕ) (s : SetupView) (first n : ℕ) (placed : List (Option Placed)) (span : DatedSpan) (way : ClockDating) (taken : TakenClocks) (near : ℕ) (ps : List (Option Placed)) (has : Bool)
    → IsNearOf given (captures_of ss station) first → ArePlaced given (captures_of ss station) placed → IsSpanOf given (captures_of ss station) station span → AreSecondsChosen s.leap_seconds first n
    → way ≡ clock_dating given station n (midway span.from span.until) → taken ≡ clocks_taken s → near ≡ s.near → ps ≡ placed
    → has_far_clock way taken near ps ss ≡ has → HaveFarClocks ss given station s has
far-clocks ss given station s first n placed span way taken near ps has is are spans said by_way by_taken by_near by_placed far =
    let own : ClockDating = clock_dating given station n (midway span.from span.until) in (
      first,
      is,
      (
        placed,
        are,
        (
          span,
          spans,
          (
            n,
            said,
            sym far ∙ ap (λ (x : ClockDating). has_far_clock x taken near ps ss) by_way
                ∙ ap (λ (x : TakenClocks). has_far_clock own x near ps ss) by_taken
                ∙ ap (λ (x : ℕ). has_far_clock own (clocks_taken s) x ps ss) by_near
                ∙ ap (λ (x : List (Option Placed)). has_far_clock own (clocks_taken s) s.near x ss) by_placed,
          ),
        ),
      ),
    )
