-- When a clock of GLONASS or BeiDou, which gives no epoch, goes in one capture (this project's rule). In a capture with epochs it
-- is followed near these, and in one without near the dates that 1013 and 1029 of the station name. If these name none, the
-- first message is near the moment that other messages name, or else the messages are in the middle of the epochs of the
-- others. A moment that is given decides the week of what is named.
-- Source: RTCM 10403.3, DF034, DF416 and DF427
use Rattle.std.specs.Prelude.{ℕ, ◌+◌, ◌-◌, ◌*◌, ◌/◌, ◌%◌, min, Option, None, Some, if◌then◌else◌}
use Rattle.rtk_message.specs.Fields.{week_ms}
use Rattle.rtk_obs.specs.declared.time.TheConstants.{LAST_MS}
use Rattle.rtk_survey.specs.ClockMarks.{marks_of_epochs, opened_moment}
use Rattle.rtk_survey.specs.ClockSpans.{clock_moment, redating_clock, clock_anchored, opened_span}
use Rattle.rtk_survey.specs.Telling.{dated}
use Rattle.rtk_survey.specs.declared.clock_marks.ClockMarks.{ClockMarks}
use Rattle.rtk_survey.specs.declared.clock_spans.ClockSpan.{ClockSpan}
use Rattle.rtk_survey.specs.declared.clock_spans.FollowedClock.{FollowedClock}
use Rattle.rtk_survey.specs.declared.clock_spans.FollowedClock.TheVariants.{GlonassWeek, BeidouWeek, GlonassDay}
use Rattle.rtk_survey.specs.declared.placing.Placed.{Placed}
use Rattle.rtk_survey.specs.declared.span.Span.{Span}
use Rattle.rtk_survey.specs.declared.tellings.Told.{Told}
use Rattle.rtk_captures.specs.declared.station_capture.StationCapture.{StationCapture}
use Rattle.rtk_plan.specs.declared.clock_dating.ClockDating.{ClockDating}

-- formula
-- the middle of two moments
abbrev pub midway : ℕ → ℕ → ℕ
midway from until = (from + until) / 2

-- how clocks of a station are dated: by these leap seconds, and in captures without epochs near a moment that is given, or by
-- what the captures name, or in the middle of the epochs of the others
abbrev pub clock_dating : Option ℕ → ℕ → ℕ → ℕ → ClockDating
clock_dating given station seconds middle = record { station = station; seconds = seconds; given = given; middle = middle }

-- a moment that a capture names; if one is given, its time of week near that one
abbrev pub week_by : Option ℕ → ℕ → ℕ
week_by None t = t
week_by (Some near) t = dated near (t % week_ms)

-- the moment near which the clocks of a capture without epochs are dated that names this one
abbrev pub named_near : ClockDating → Told → ℕ
named_near way t = opened_moment (week_by way.given (opened_moment t.first))

-- formula
-- by how much GPS time is ahead of what a survey has of a clock: of GLONASS it has UTC
abbrev pub clock_lead : FollowedClock → ℕ → ℕ
clock_lead GlonassWeek seconds = 1000 * seconds
clock_lead BeidouWeek seconds = 0
clock_lead GlonassDay seconds = 1000 * seconds

-- formula
-- moments with their dates, if the one that is undated has this date; if some are not followed, the last one is after 2100
abbrev pub placed_clock_span : ℕ → ℕ → ℕ → Span → Placed
placed_clock_span lead first undated s = record {
  first = first;
  from = first + lead + s.least - undated;
  until = if s.is_wide then LAST_MS + 1 else first + lead + s.greatest - undated;
}

-- near the epochs of the capture
abbrev pub placed_by_epochs : ClockDating → FollowedClock → Span → Placed → ClockSpan → Placed
placed_by_epochs way clock epochs p k =
    placed_clock_span (clock_lead clock way.seconds) (min p.first LAST_MS) epochs.first (clock_anchored clock (marks_of_epochs epochs) (opened_span k)).span

-- near the dates that the station names in it
abbrev pub placed_by_dates : ClockDating → FollowedClock → ClockMarks → ClockSpan → Placed
placed_by_dates way clock m k =
    placed_clock_span (clock_lead clock way.seconds) (week_by way.given m.first) m.first (clock_anchored clock m (opened_span k)).span

-- with the first message near a moment
abbrev pub placed_near : ClockDating → FollowedClock → ℕ → ClockSpan → Placed
placed_near way clock near k =
    placed_clock_span (clock_lead clock way.seconds) (clock_moment (redating_clock clock k.has_day) near ((opened_span k).span.first % week_ms))
    (opened_span k).span.first (opened_span k).span

-- formula
-- the middle of the first and the last moment of a clock
abbrev pub middle_of_span : Span → ℕ
middle_of_span s = midway s.least s.greatest

-- formula
-- with the middle of its moments near the middle of the epochs of the others
abbrev pub placed_in_middle : ClockDating → FollowedClock → ClockSpan → Placed
placed_in_middle way clock k =
    placed_clock_span (clock_lead clock way.seconds)
    (clock_moment (redating_clock clock k.has_day) way.middle (middle_of_span (opened_span k).span % week_ms))
    (middle_of_span (opened_span k).span) (opened_span k).span

abbrev pub placed_by_moment : ClockDating → FollowedClock → Option Told → ClockSpan → Placed
placed_by_moment way clock None k = placed_in_middle way clock k
placed_by_moment way clock (Some t) k = placed_near way clock (named_near way t) k

abbrev pub placed_alone : ClockDating → FollowedClock → Option ClockMarks → Option Told → ClockSpan → Placed
placed_alone way clock None told k = placed_by_moment way clock told k
placed_alone way clock (Some m) told k = placed_by_dates way clock m k

abbrev pub placed_clock : ClockDating → FollowedClock → StationCapture → Option ClockMarks → Option Span → Option Placed → ClockSpan → Placed
placed_clock way clock c marks None p k = placed_alone way clock marks c.moment k
placed_clock way clock c marks (Some epochs) None k = placed_alone way clock marks c.moment k
placed_clock way clock c marks (Some epochs) (Some p) k = placed_by_epochs way clock epochs p k

-- if the capture has a message of the clock with a value
abbrev pub placed_if_followed : ClockDating → FollowedClock → StationCapture → Option ClockMarks → Option Placed → Option ClockSpan → Option Placed
placed_if_followed way clock c marks p None = None
placed_if_followed way clock c marks p (Some k) = Some (placed_clock way clock c marks c.span p k)
