-- The first and the last moment of what is converted, one capture after another.
use Rattle.std.proofs.Common.{◌≡◌, ◌≤◌, ◌<◌, ℕ, zero, suc, min, List, [], ◌∷◌, length, get_or, drop, Option, refl, arith}
use Rattle.rtk_survey.specs.declared.placing.Placed.{Placed}
use Rattle.rtk_survey.specs.declared.survey.CaptureSurvey.{CaptureSurvey}
use Rattle.rtk_plan.specs.Near1012.{ends_with_capture, ends_after}
use Rattle.rtk_plan.specs.declared.clock_dating.ClockDating.{ClockDating}
use Rattle.rtk_plan.specs.declared.near_1012.Ends.{Ends}

none-ends : (way : ClockDating) (e : Ends) (ss : List CaptureSurvey) → ends_after way e ss [] ≡ e
none-ends way e [] = refl
none-ends way e (s ∷ ss) = refl

pub ends-end : (way : ClockDating) (e : Ends) (ss : List CaptureSurvey) (ps : List (Option Placed)) (i : ℕ) → min (length ss) (length ps) ≤ i
    → ends_after way e (drop i ss) (drop i ps) ≡ e
ends-end way e [] ps zero past = refl
ends-end way e [] ps (suc i) past = refl
ends-end way e (s ∷ ss) [] zero past = refl
ends-end way e (s ∷ ss) [] (suc i) past = none-ends way e (drop i ss)
ends-end way e (s ∷ ss) (p ∷ ps) zero past = absurd (omega (arith, past))
ends-end way e (s ∷ ss) (p ∷ ps) (suc i) past = ends-end way e ss ps i (omega (arith, past))

-- a capture more
pub ends-step : (way : ClockDating) (e : Ends) (ss : List CaptureSurvey) (ps : List (Option Placed)) (i : ℕ) (s : CaptureSurvey) (p : Option Placed)
    → i < length ss → i < length ps → ends_after way (ends_with_capture way e (get_or ss i s) (get_or ps i p)) (drop (suc i) ss) (drop (suc i) ps)
    ≡ ends_after way e (drop i ss) (drop i ps)
ends-step way e [] ps i s p lt few = absurd (omega (arith, lt))
ends-step way e (x ∷ ss) [] i s p lt few = absurd (omega (arith, few))
ends-step way e (x ∷ ss) (y ∷ ps) zero s p lt few = refl
ends-step way e (x ∷ ss) (y ∷ ps) (suc i) s p lt few = ends-step way e ss ps i s p (omega (arith, lt)) (omega (arith, few))
