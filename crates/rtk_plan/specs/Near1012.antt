-- The moment near which a conversion dates that takes 1012 (this project's rule). A 1012 tells no day, so it is dated within
-- half a day of that moment, and all epochs and all messages of GLONASS have to lie there.
-- Source: RTCM 10403.3, DF034
use Rattle.std.specs.Prelude.{ℕ, ◌+◌, ◌*◌, ◌/◌, Bool, ◌&&◌, ◌||◌, nat_le, nat_lt, min, max, List, [], ◌∷◌, Option, None, Some, if◌then◌else◌}
use Rattle.rtk_obs.specs.declared.time.TheConstants.{LAST_MS}
use Rattle.rtk_survey.specs.declared.clock_spans.FollowedClock.TheVariants.{GlonassWeek, GlonassDay}
use Rattle.rtk_survey.specs.declared.placing.Placed.{Placed}
use Rattle.rtk_survey.specs.declared.survey.CaptureSurvey.{CaptureSurvey}
use Rattle.rtk_plan.specs.ClockReach.{clock_placed}
use Rattle.rtk_plan.specs.declared.clock_dating.ClockDating.{ClockDating}
use Rattle.rtk_plan.specs.declared.near_1012.Ends.{Ends}

-- ---- the first and the last moment of what is converted

abbrev pub ends_with_moment : Ends → ℕ → Ends
ends_with_moment e t = record { from = min e.from t; until = max e.until t }

abbrev pub ends_with_placed : Ends → Option Placed → Ends
ends_with_placed e None = e
ends_with_placed e (Some p) = ends_with_moment (ends_with_moment e p.from) p.until

-- those of the 1012 and the MSM of GLONASS of a capture too
abbrev pub ends_with_capture : ClockDating → Ends → CaptureSurvey → Option Placed → Ends
ends_with_capture way e s p = ends_with_placed (ends_with_placed e (clock_placed way GlonassWeek s p)) (clock_placed way GlonassDay s p)

-- those of captures of a station, which are placed so
abbrev pub ends_after : ClockDating → Ends → List CaptureSurvey → List (Option Placed) → Ends
ends_after way e [] ps = e
ends_after way e (s ∷ ss) [] = e
ends_after way e (s ∷ ss) (p ∷ ps) = ends_after way (ends_with_capture way e s p) ss ps

-- ---- the moment near which they are dated

-- formula
-- the whole second in the middle of the first and the last moment, rounded up, and rounded down
abbrev pub middle_up : Ends → ℕ
middle_up e = (e.from + e.until + 1_999) / 2_000 * 1_000

abbrev pub middle_down : Ends → ℕ
middle_down e = (e.from + e.until) / 2_000 * 1_000

-- formula
-- rounded up, but down if the first moment were more than half a day before it
abbrev pub middle_second : Ends → ℕ
middle_second e = if nat_lt (e.from + 43_200_000) (middle_up e) then middle_down e else middle_up e

-- constant
-- a reference for dates: 1980-01-13 00:00:00.000 to 2099-12-31 23:59:59.999
abbrev pub can_date : ℕ → Bool
can_date near = nat_le 604_800_000 near && nat_le near 3_786_479_999_999

-- formula
-- all moments lie within half a day of this one, the last one less than half a day after it
abbrev pub dates_ends : Ends → ℕ → Bool
dates_ends e near = nat_le near (e.from + 43_200_000) && nat_lt e.until (near + 43_200_000)

abbrev pub near_of_ends : Ends → Option ℕ
near_of_ends e = if dates_ends e (middle_second e) && can_date (middle_second e) then Some (middle_second e) else None

-- the moment near which a time of day is dated right from the first to the last moment, if there is one, and if both can be
-- written
abbrev pub near_between : Ends → Option ℕ
near_between e = if nat_lt LAST_MS e.from || nat_lt LAST_MS e.until then None else near_of_ends e
