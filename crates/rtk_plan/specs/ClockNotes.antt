-- The lines of captures whose clocks of GLONASS and BeiDou a person should know of: none of their dates counts, they fall, or
-- another message than those of the station tells the day of their 1012 (this project's rule).
use Rattle.std.specs.Prelude.{ℕ, Bool, true, false, not, ◌&&◌, ◌||◌, is_some, is_none, List, [], ◌++◌, codes, Option, None, Some, if◌then◌else◌}
use Rattle.std.specs.Borrow.{Bor}
use Rattle.rtk_setup.specs.Setup.{SetupView}
use Rattle.rtk_survey.specs.declared.clock_spans.ClockSpan.{ClockSpan}
use Rattle.rtk_survey.specs.declared.station_clocks.StationClocks.{StationClocks}
use Rattle.rtk_survey.specs.declared.span.Span.{Span}
use Rattle.rtk_survey.specs.declared.survey.CaptureSurvey.{CaptureSurvey}
use Rattle.rtk_survey.specs.declared.tellings.Told.{Told}
use Rattle.rtk_captures.specs.CaptureNames.{capture_name, lines_by}
use Rattle.rtk_captures.specs.Lists.{date_line, undated_line, name_line}
use Rattle.rtk_captures.specs.StationCaptures.{capture_of}
use Rattle.rtk_captures.specs.declared.span_line.DateSource.{DateSource}
use Rattle.rtk_captures.specs.declared.span_line.DateSource.TheVariants.{Words, Station, OtherStation, Ephemerides, OtherEphemerides}
use Rattle.rtk_captures.specs.declared.station_capture.StationCapture.{StationCapture}
use Rattle.rtk_plan.specs.ClockReach.{clocks_in_survey, clocks_taken}
use Rattle.rtk_plan.specs.declared.clock_reach.TakenClocks.{TakenClocks}

abbrev pub clock_falls : Option ClockSpan → Bool
clock_falls None = false
clock_falls (Some k) = k.falls

-- a clock that is converted and tells the time of week has messages with values
abbrev pub has_week_clock : TakenClocks → StationClocks → Bool
has_week_clock taken s = (taken.glonass && is_some s.glonass) || (taken.beidou && is_some s.beidou)

-- 1012 have no MSM of GLONASS that tells their day
abbrev pub lacks_day : Option ClockSpan → Bool
lacks_day None = false
lacks_day (Some k) = not k.has_day

-- there are such 1012 with values, and 1012 are converted, or left out since they can't be dated
abbrev pub has_day_clock : TakenClocks → Bool → StationClocks → Bool
has_day_clock taken leaves_1012 s = (taken.glonass_day || leaves_1012) && lacks_day s.glonass_day

-- such a clock tells an earlier time after a later one
abbrev pub taken_clock_falls : TakenClocks → StationClocks → Bool
taken_clock_falls taken s =
    (taken.glonass && clock_falls s.glonass) || ((taken.glonass_day && clock_falls s.glonass_day) || (taken.beidou && clock_falls s.beidou))

abbrev pub is_by_words : DateSource → Bool
is_by_words Words = true
is_by_words (Station number) = false
is_by_words (OtherStation number station) = false
is_by_words Ephemerides = false
is_by_words (OtherEphemerides number) = false

-- a capture without an epoch tells no date
abbrev pub tells_no_date : StationCapture → Bool
tells_no_date c = is_none c.span && is_none c.moment

-- clocks that no word dates: words tell the week, and so not the day of 1012
abbrev pub has_undated_clock : DateSource → TakenClocks → Bool → StationClocks → Bool
has_undated_clock source taken leaves_1012 s = has_day_clock taken leaves_1012 s || (not (is_by_words source) && has_week_clock taken s)

-- such a capture has such clocks
abbrev pub undated_clock_line : DateSource → TakenClocks → Bool → StationCapture → StationClocks → List ℕ → List ℕ
undated_clock_line source taken leaves_1012 c s name =
    if tells_no_date c && has_undated_clock source taken leaves_1012 s then undated_line name else []

abbrev pub epochs_fall : Option Span → Bool
epochs_fall None = false
epochs_fall (Some s) = s.falls

-- formula
-- the line of a capture whose clocks fall; if its epochs fall too, it has this line already
abbrev pub falling_clock_line : TakenClocks → StationCapture → StationClocks → List ℕ → List ℕ
falling_clock_line taken c s name =
    if taken_clock_falls taken s && not (epochs_fall c.span) then name_line (codes " time-falls ") name else []

-- formula
-- the moment that a message of a capture names, near which its first 1012 is dated; if a moment is given, in the week of that one
unfoldable pub day_line : Told → List ℕ → List ℕ
day_line t name = codes " day-of-1012" ++ date_line t name

abbrev pub day_line_if_any : Option Told → List ℕ → List ℕ
day_line_if_any None name = []
day_line_if_any (Some t) name = day_line t name

-- a capture without an epoch has such 1012 and names a moment, but no 1013 or 1029 of the station does: an ephemeris names the
-- time that it is of, which may be hours off
abbrev pub day_line_by_others : TakenClocks → Bool → StationCapture → StationClocks → List ℕ → List ℕ
day_line_by_others taken leaves_1012 c s name =
    if has_day_clock taken leaves_1012 s && not c.is_moment_of_station then day_line_if_any c.moment name else []

-- all lines of a capture
unfoldable pub clock_notes : DateSource → TakenClocks → Bool → StationCapture → StationClocks → List ℕ → List ℕ
clock_notes source taken leaves_1012 c s name =
    undated_clock_line source taken leaves_1012 c s name ++ falling_clock_line taken c s name ++ day_line_by_others taken leaves_1012 c s name

abbrev pub clock_notes_in : ℕ → DateSource → TakenClocks → Bool → CaptureSurvey → List ℕ → List ℕ
clock_notes_in station source taken leaves_1012 s name = clock_notes source taken leaves_1012 (capture_of station s) (clocks_in_survey station s) name

-- those of all captures, by the setup of their conversion
abbrev pub all_clock_notes : List (Bor (List ℕ)) → DateSource → Bool → SetupView → List CaptureSurvey → List ℕ
all_clock_notes names source leaves_1012 s ss =
    lines_by (λ at survey. clock_notes_in s.station source (clocks_taken s) leaves_1012 survey (capture_name names at)) 0 ss
