-- How far a clock of GLONASS or BeiDou goes in a capture (this project's rule). It gives no epoch, so it is followed from
-- message to message: a message is dated near the last epoch, or near the last message of the clock if no epoch came since. As
-- long as no epoch came, the dates that 1013 and 1029 of the station name take their place. Beside epochs all moments are as if
-- the first epoch were in week 1,024, as those of epochs are.
-- Source: RTCM 10403.3, DF034, DF416 and DF427
use Rattle.std.specs.Prelude.{ℕ, ◌+◌, ◌-◌, ◌%◌, ◌==◌, Bool, true, false, not, ◌&&◌, ◌||◌, nat_le, min, Option, None, Some, unwrap_or, is_some, if◌then◌else◌}
use Rattle.rtk_message.specs.declared.any_message.AnyMessage.{AnyMessage}
use Rattle.rtk_message.specs.declared.any_message.AnyMessage.TheVariants as any
use Rattle.rtk_message.specs.declared.system.System.{System}
use Rattle.rtk_message.specs.declared.system.System.TheVariants.{Gps, Glonass, Galileo, Beidou, Qzss, Sbas, Navic}
use Rattle.rtk_message.specs.Obs1012 as obs1012
use Rattle.rtk_message.specs.Fields.{week_ms}
use Rattle.rtk_obs.specs.declared.time.TheConstants.{LAST_MS}
use Rattle.rtk_survey.specs.BesideGps.{told_time, gives_value_beside}
use Rattle.rtk_survey.specs.Chains.{tells_day}
use Rattle.rtk_survey.specs.ClockMarks.{opened_moment}
use Rattle.rtk_survey.specs.Epochs.{begun, is_followed, with_moment}
use Rattle.rtk_survey.specs.Telling.{dated, day_ms}
use Rattle.rtk_survey.specs.declared.clock_marks.ClockMarks.{ClockMarks}
use Rattle.rtk_survey.specs.declared.clock_spans.ClockSpan.{ClockSpan}
use Rattle.rtk_survey.specs.declared.clock_spans.FollowedClock.{FollowedClock}
use Rattle.rtk_survey.specs.declared.clock_spans.FollowedClock.TheVariants.{GlonassWeek, BeidouWeek, GlonassDay}
use Rattle.rtk_survey.specs.declared.clock_spans.FollowedSpan.{FollowedSpan}
use Rattle.rtk_survey.specs.declared.clock_spans.FollowedTime.{FollowedTime}
use Rattle.rtk_survey.specs.declared.span.Span.{Span}

-- ---- the clock of a message

-- one of GLONASS that tells no day (DF416) is apart
abbrev pub clock_of_glonass : ℕ → FollowedClock
clock_of_glonass c = if tells_day Glonass c then GlonassWeek else GlonassDay

-- table
-- the clock of a system that is followed, and the time that it tells
abbrev pub followed_by : System → ℕ → Option FollowedTime
followed_by Gps c = None
followed_by Glonass c = Some (record { clock = clock_of_glonass c; time = told_time Glonass c })
followed_by Galileo c = None
followed_by Beidou c = Some (record { clock = BeidouWeek; time = told_time Beidou c })
followed_by Qzss c = None
followed_by Sbas c = None
followed_by Navic c = None

abbrev pub followed_time : AnyMessage → Option FollowedTime
followed_time (any.Message m) = None
followed_time (any.Msm m) = followed_by m.system m.header.tow
followed_time (any.Obs1012 m) = Some (record { clock = GlonassDay; time = told_time Glonass (obs1012.clock_of m) })

abbrev pub followed_if : Bool → Option FollowedTime → Option FollowedTime
followed_if has_value None = None
followed_if has_value (Some told) = if has_value then Some told else None

-- the same of a message that has a value
abbrev pub followed_with_value : AnyMessage → Option FollowedTime
followed_with_value m = followed_if (gives_value_beside m) (followed_time m)

-- ---- moments

-- formula
-- the moment with this time of day nearest to another moment; of two alike the earlier
abbrev pub dated_in_day : ℕ → ℕ → ℕ
dated_in_day at t = (at - 43_200_000) + (t % day_ms + day_ms - (at - 43_200_000) % day_ms) % day_ms

-- table
-- the moment nearest to another one at which a clock tells a time: of a week, but without a day of a day
abbrev pub clock_moment : FollowedClock → ℕ → ℕ → ℕ
clock_moment GlonassWeek at t = dated at t
clock_moment BeidouWeek at t = dated at t
clock_moment GlonassDay at t = dated_in_day at t

-- the clock that dates moments again: that of MSM of GLONASS, if one tells the day of a time of day
abbrev pub redating_clock : FollowedClock → Bool → FollowedClock
redating_clock clock has_day = if has_day then GlonassWeek else clock

-- a moment, if it can be written; else another one
abbrev pub moment_or : ℕ → ℕ → ℕ
moment_or t other = if nat_le t LAST_MS then t else other

-- one message alone, at this moment
abbrev pub span_at : ℕ → Span
span_at t = record { first = t; last = t; least = t; greatest = t; next_greatest = None; falls = false; is_wide = false }

-- formula
-- a moment as far from the second of two moments as it was from the first, as far as it can be written
abbrev pub moved_moment : ℕ → ℕ → ℕ → ℕ
moved_moment from to t = min (t + to - from) LAST_MS

abbrev pub moved_moment_if_any : ℕ → ℕ → Option ℕ → Option ℕ
moved_moment_if_any from to None = None
moved_moment_if_any from to (Some t) = Some (moved_moment from to t)

abbrev pub moved_span : ℕ → ℕ → Span → Span
moved_span from to s = record {
  first = moved_moment from to s.first;
  last = moved_moment from to s.last;
  least = moved_moment from to s.least;
  greatest = moved_moment from to s.greatest;
  next_greatest = moved_moment_if_any from to s.next_greatest;
  falls = s.falls;
  is_wide = s.is_wide;
}

-- ---- one clock

-- the fields of a span, as a survey keeps them
abbrev pub kept_span : FollowedSpan → ClockSpan
kept_span k = record {
  first = k.span.first;
  last = k.span.last;
  least = k.span.least;
  greatest = k.span.greatest;
  next_greatest = k.span.next_greatest;
  falls = k.span.falls;
  is_wide = k.span.is_wide;
  mark = k.mark;
  by_dates = k.by_dates;
  beside = k.beside;
  has_day = k.has_day;
}

abbrev pub opened_if_any : Option ℕ → Option ℕ
opened_if_any None = None
opened_if_any (Some t) = Some (opened_moment t)

abbrev pub opened_span : ClockSpan → FollowedSpan
opened_span k = record {
  span = record {
    first = opened_moment k.first;
    last = opened_moment k.last;
    least = opened_moment k.least;
    greatest = opened_moment k.greatest;
    next_greatest = opened_if_any k.next_greatest;
    falls = k.falls;
    is_wide = k.is_wide;
  };
  mark = opened_if_any k.mark;
  by_dates = k.by_dates;
  beside = opened_if_any k.beside;
  has_day = k.has_day;
}

-- the first message of a clock, near the last epoch or date if one came
abbrev pub clock_begun : FollowedClock → Option ClockMarks → ℕ → FollowedSpan
clock_begun c None t = record { span = begun t; mark = None; by_dates = false; beside = None; has_day = false }
clock_begun c (Some m) t = record {
  span = span_at (moment_or (clock_moment c m.last t) m.last);
  mark = Some m.last;
  by_dates = is_some m.date;
  beside = None;
  has_day = false;
}

-- the last message: of 1012 it may be an MSM of GLONASS behind them
abbrev pub last_message : FollowedSpan → ℕ
last_message k = unwrap_or k.beside k.span.last

-- a clock is dated by epochs, or by dates
abbrev pub is_marked_by : ClockMarks → FollowedSpan → Bool
is_marked_by m k = is_some k.mark && (if k.by_dates then is_some m.date else not (is_some m.date))

-- the last message is at this moment, and the others with it
abbrev pub moved_messages : ℕ → Bool → FollowedSpan → FollowedSpan
moved_messages to by_dates k = record {
  span = moved_span (last_message k) to k.span;
  mark = None;
  by_dates = by_dates;
  beside = moved_moment_if_any (last_message k) to k.beside;
  has_day = k.has_day;
}

abbrev pub earlier_if : Bool → ℕ → ℕ → ℕ
earlier_if holds t other = if holds then min t other else t

-- formula
-- where the last message is set near a moment behind it. Of moments by dates the day of the week is known, which counts if the
-- message does not come after this moment by it
abbrev pub last_moved : FollowedClock → ℕ → FollowedSpan → ℕ
last_moved c near k =
    earlier_if k.by_dates (clock_moment (redating_clock c k.has_day) near (last_message k % week_ms)) (dated near (last_message k % week_ms))

-- the last message is set near a moment, and the others with it. Moments by dates keep their day, however often they are moved
abbrev pub moved_near : FollowedClock → ℕ → Bool → FollowedSpan → FollowedSpan
moved_near c near by_dates k = moved_messages (last_moved c near k) (by_dates || k.by_dates) k

-- if no epoch came before the messages, the last of them is set near the first epoch, and the others with it. The same holds of
-- messages before the first date, and of moments by dates, which epochs replace
abbrev pub clock_anchored : FollowedClock → ClockMarks → FollowedSpan → FollowedSpan
clock_anchored c m k = if is_marked_by m k then k else moved_near c m.first (is_some m.date) k

abbrev pub clock_anchored_if_any : FollowedClock → Option ClockMarks → FollowedSpan → FollowedSpan
clock_anchored_if_any c None k = k
clock_anchored_if_any c (Some m) k = clock_anchored c m k

-- the last epoch or date is not the one that was the last before
abbrev pub is_new_mark : Option ℕ → ℕ → Bool
is_new_mark None t = true
is_new_mark (Some before) t = not (before == t)

-- the moment near which the next message is dated: the last epoch or date if it is new, else the last message
abbrev pub clock_base : Option ClockMarks → FollowedSpan → ℕ
clock_base None k = last_message k
clock_base (Some m) k = if is_new_mark k.mark m.last then m.last else last_message k

-- a moment more; one that is more than a week from the first is not followed
abbrev pub with_moment_near : Span → ℕ → Span
with_moment_near s t = if is_followed s.first t then with_moment s t else record s { is_wide = true }

abbrev pub last_mark_of : Option ClockMarks → Option ℕ
last_mark_of None = None
last_mark_of (Some m) = Some m.last

abbrev pub are_dates_if_any : Option ClockMarks → Bool
are_dates_if_any None = false
are_dates_if_any (Some m) = is_some m.date

-- a message more after these epochs or dates, by the time that its clock tells
abbrev pub with_clock_time : FollowedClock → Option ClockMarks → ℕ → FollowedSpan → FollowedSpan
with_clock_time c m t k = record {
  span = with_moment_near k.span (clock_moment c (clock_base m k) t);
  mark = last_mark_of m;
  by_dates = are_dates_if_any m;
  beside = None;
  has_day = k.has_day;
}

abbrev pub clock_with : FollowedClock → Option ClockMarks → ClockSpan → ℕ → FollowedSpan
clock_with c m k t = with_clock_time c m t (clock_anchored_if_any c m (opened_span k))

abbrev pub clock_followed : FollowedClock → Option ClockMarks → Option ClockSpan → ℕ → ClockSpan
clock_followed c m None t = kept_span (clock_begun c m t)
clock_followed c m (Some k) t = kept_span (clock_with c m k t)
