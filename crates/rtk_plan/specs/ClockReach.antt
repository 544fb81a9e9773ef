-- When the clocks of GLONASS and BeiDou of captures go that give no epoch, and whether a conversion dates them so (this
-- project's rule).
use Rattle.std.specs.Prelude.{ℕ, ◌+◌, Bool, true, false, List, [], ◌∷◌, slice_get, Option, None, Some}
use Rattle.std.specs.List.{list_any}
use Rattle.rtk_message.specs.declared.system.System.TheVariants.{Glonass, Beidou}
use Rattle.rtk_setup.specs.Setup.{SetupView, lists_system}
use Rattle.rtk_survey.specs.StationClocks.{clocks_by_station, clocks_settled, no_station_clocks}
use Rattle.rtk_survey.specs.Targets.{marks_if_known}
use Rattle.rtk_survey.specs.declared.clock_marks.ClockMarks.{ClockMarks}
use Rattle.rtk_survey.specs.declared.clock_spans.ClockSpan.{ClockSpan}
use Rattle.rtk_survey.specs.declared.clock_spans.FollowedClock.{FollowedClock}
use Rattle.rtk_survey.specs.declared.clock_spans.FollowedClock.TheVariants.{GlonassWeek, BeidouWeek, GlonassDay}
use Rattle.rtk_survey.specs.declared.placing.Placed.{Placed}
use Rattle.rtk_survey.specs.declared.station_clocks.StationClocks.{StationClocks}
use Rattle.rtk_survey.specs.declared.survey.CaptureSurvey.{CaptureSurvey}
use Rattle.rtk_survey.specs.declared.target.TargetSurvey.{TargetSurvey}
use Rattle.rtk_captures.specs.Reach.{reach_with, is_far_if_any}
use Rattle.rtk_captures.specs.StationCaptures.{capture_of}
use Rattle.rtk_plan.specs.ClockDating.{placed_if_followed}
use Rattle.rtk_plan.specs.declared.clock_dating.ClockDating.{ClockDating}
use Rattle.rtk_plan.specs.declared.clock_reach.TakenClocks.{TakenClocks}

-- ---- the clocks of a station

abbrev pub clocks_for : ℕ → Option TargetSurvey → StationClocks
clocks_for n None = no_station_clocks
clocks_for n (Some t) = clocks_settled (marks_if_known t.present n t.dates) (clocks_by_station t.clocks n)

-- how far the clocks of a station go in a capture
abbrev pub clocks_in_survey : ℕ → CaptureSurvey → StationClocks
clocks_in_survey n s = clocks_for n s.contents.target

abbrev pub marks_for : ℕ → Option TargetSurvey → Option ClockMarks
marks_for n None = None
marks_for n (Some t) = marks_if_known t.present n t.dates

-- the epochs of a station in a capture, or if it has none the dates that the station names
abbrev pub marks_in_survey : ℕ → CaptureSurvey → Option ClockMarks
marks_in_survey n s = marks_for n s.contents.target

-- table
abbrev pub span_of_clock : FollowedClock → StationClocks → Option ClockSpan
span_of_clock GlonassWeek s = s.glonass
span_of_clock BeidouWeek s = s.beidou
span_of_clock GlonassDay s = s.glonass_day

-- the first and the last moment of a clock in a capture whose epochs are dated so
unfoldable pub clock_placed : ClockDating → FollowedClock → CaptureSurvey → Option Placed → Option Placed
clock_placed way clock s p =
    placed_if_followed way clock (capture_of way.station s) (marks_in_survey way.station s) p (span_of_clock clock (clocks_in_survey way.station s))

-- ---- all captures

-- the clocks of the systems that are converted
abbrev pub clocks_taken : SetupView → TakenClocks
clocks_taken s = record {
  glonass = lists_system s.head.listed Glonass;
  beidou = lists_system s.head.listed Beidou;
  glonass_day = s.takes_1012;
}

abbrev pub placed_if_taken : Bool → Option Placed → Option Placed
placed_if_taken true p = p
placed_if_taken false p = None

-- the epochs of a capture and the clocks of it that are taken
abbrev pub placed_with_clocks : ClockDating → TakenClocks → CaptureSurvey → Option Placed → Option Placed
placed_with_clocks way taken s p =
    reach_with (reach_with p (placed_if_taken taken.glonass (clock_placed way GlonassWeek s p))) (placed_if_taken taken.beidou (clock_placed way BeidouWeek s p))

abbrev pub placed_or_none : Option (Option Placed) → Option Placed
placed_or_none None = None
placed_or_none (Some p) = p

-- the same of captures, of which the first has this place
abbrev pub all_with_clocks : ClockDating → TakenClocks → List (Option Placed) → ℕ → List CaptureSurvey → List (Option Placed)
all_with_clocks way taken ps at [] = []
all_with_clocks way taken ps at (s ∷ ss) = placed_with_clocks way taken s (placed_or_none (slice_get ps at)) ∷ all_with_clocks way taken ps (at + 1) ss

-- a conversion near a moment would date an epoch or such a clock of a capture otherwise than here
abbrev pub has_far_clock : ClockDating → TakenClocks → ℕ → List (Option Placed) → List CaptureSurvey → Bool
has_far_clock way taken near ps ss = list_any (is_far_if_any near) (all_with_clocks way taken ps 0 ss)
