-- The 1012 of a station beside its MSM of GLONASS, which are of one clock (this project's rule): a 1012 is dated near the last epoch,
-- MSM of GLONASS or 1012, whichever came last. If it seems to come before that, it is dated near the epoch or the MSM behind it, if
-- this is nearer in the time of day.
-- Source: RTCM 10403.3, DF034 and DF416
use Rattle.std.specs.Prelude.{ℕ, ◌-◌, ◌%◌, Bool, true, false, not, ◌&&◌, nat_lt, Option, None, Some, if◌then◌else◌}
use Rattle.rtk_message.specs.Fields.{week_ms}
use Rattle.rtk_survey.specs.ClockMarks.{opened_moment}
use Rattle.rtk_survey.specs.ClockSpans.{clock_moment, moment_or, span_at, kept_span, opened_if_any, opened_span, clock_begun, last_message, is_marked_by, moved_near, clock_anchored_if_any, is_new_mark, clock_base, with_moment_near, last_mark_of, are_dates_if_any, clock_with}
use Rattle.rtk_survey.specs.declared.clock_marks.ClockMarks.{ClockMarks}
use Rattle.rtk_survey.specs.declared.clock_spans.ClockSpan.{ClockSpan}
use Rattle.rtk_survey.specs.declared.clock_spans.FollowedClock.TheVariants.{GlonassWeek, GlonassDay}
use Rattle.rtk_survey.specs.declared.clock_spans.FollowedSpan.{FollowedSpan}

-- ---- behind MSM of GLONASS

-- the moment near which a message behind the last MSM of GLONASS is dated
abbrev pub week_base : Option ClockMarks → ClockSpan → ℕ
week_base e w = clock_base e (clock_anchored_if_any GlonassWeek e (opened_span w))

-- the first 1012, near this moment; an MSM told its day
abbrev pub day_begun_near : Option ClockMarks → ℕ → ℕ → FollowedSpan
day_begun_near e near t = record {
  span = span_at (moment_or (clock_moment GlonassDay near t) near);
  mark = last_mark_of e;
  by_dates = are_dates_if_any e;
  beside = None;
  has_day = true;
}

abbrev pub day_begun : Option ClockMarks → Option ClockSpan → ℕ → FollowedSpan
day_begun e None t = clock_begun GlonassDay e t
day_begun e (Some w) t = day_begun_near e (week_base e w) t

-- a 1012 more, behind these MSM
abbrev pub day_followed : Option ClockMarks → Option ClockSpan → Option ClockSpan → ℕ → ClockSpan
day_followed e w None t = kept_span (day_begun e w t)
day_followed e w (Some k) t = kept_span (clock_with GlonassDay e k t)

-- 1012 that neither an epoch, nor a date, nor an MSM dates: the last of them is set near the first MSM
abbrev pub day_told_at : Option ClockMarks → ℕ → FollowedSpan → FollowedSpan
day_told_at None t k = if k.has_day then k else moved_near GlonassDay t false k
day_told_at (Some m) t k = k

-- 1012 before an MSM at this moment: it is the last message now, and tells their day
abbrev pub day_beside : Option ClockMarks → ℕ → FollowedSpan → FollowedSpan
day_beside e t k = record {
  span = (day_told_at e t k).span;
  mark = last_mark_of e;
  by_dates = are_dates_if_any e;
  beside = Some t;
  has_day = true;
}

abbrev pub day_with_msm : Option ClockMarks → ClockSpan → ClockSpan → FollowedSpan
day_with_msm e w k = day_beside e (opened_moment w.last) (clock_anchored_if_any GlonassDay e (opened_span k))

-- the 1012 after an MSM more, which are the last of these
abbrev pub day_after_msm : Option ClockMarks → ClockSpan → Option ClockSpan → Option ClockSpan
day_after_msm e w None = None
day_after_msm e w (Some k) = Some (kept_span (day_with_msm e w k))

-- ---- before an epoch or an MSM

-- how far two moments are apart
abbrev pub apart_by : ℕ → ℕ → ℕ
apart_by s t = if nat_lt s t then t - s else s - t

abbrev pub mark_if_new : Option ℕ → Option ℕ → ℕ → ℕ
mark_if_new before None other = other
mark_if_new before (Some t) other = if is_new_mark before t then t else other

-- what dates the last 1012, behind those before it: an epoch or a date if it is new, else the last message
abbrev pub base_of_last : FollowedSpan → FollowedSpan → ℕ
base_of_last b k = mark_if_new b.mark k.mark (last_message b)

-- the last 1012 near another moment
abbrev pub last_near : ℕ → FollowedSpan → ℕ
last_near near k = clock_moment GlonassDay near (k.span.last % week_ms)

-- 1012, of which the last one is at this moment, behind those before it
abbrev pub with_last_at : ℕ → FollowedSpan → FollowedSpan → FollowedSpan
with_last_at t b k = record { span = with_moment_near b.span t; mark = k.mark; by_dates = k.by_dates; beside = None; has_day = k.has_day }

-- the last 1012 seems to come before what dates it, by more than it is from a moment behind it in the time of day
abbrev pub is_early : ℕ → ℕ → FollowedSpan → Bool
is_early near base k = nat_lt (apart_by near (last_near near k)) (base - k.span.last)

-- the last 1012 near such a moment behind it
abbrev pub last_redated : ℕ → FollowedSpan → FollowedSpan → FollowedSpan
last_redated near b k = if is_early near (base_of_last b k) k then with_last_at (last_near near k) b k else k

-- moments stand beside these epochs or dates, or if none came beside MSM of GLONASS
abbrev pub is_marked_so : Option ClockMarks → FollowedSpan → Bool
is_marked_so None k = k.has_day
is_marked_so (Some m) k = is_marked_by m k

-- all of them are followed, and stand beside the same as what comes behind them
abbrev pub can_redate : Option ClockMarks → FollowedSpan → Bool
can_redate e k = is_marked_so e k && not k.span.is_wide

abbrev pub redated_span : Option ClockMarks → ℕ → ClockSpan → ClockSpan → ClockSpan
redated_span e near b k = if can_redate e (opened_span k) then kept_span (last_redated near (opened_span b) (opened_span k)) else k

-- 1012 with those before the last one, before a message at this moment
abbrev pub redated_near : Option ClockMarks → ℕ → Option ClockSpan → ClockSpan → ClockSpan
redated_near e near None k = k
redated_near e near (Some b) k = redated_span e near b k

abbrev pub redated_near_if_any : Option ClockMarks → ℕ → Option ClockSpan → Option ClockSpan → Option ClockSpan
redated_near_if_any e near b None = None
redated_near_if_any e near b (Some k) = Some (redated_near e near b k)

-- 1012 with those before the last one, before the last epoch or date if it came behind them
abbrev pub redated_by_mark : Option ClockMarks → Option ClockSpan → ClockSpan → ClockSpan
redated_by_mark None b k = k
redated_by_mark (Some m) b k = if is_new_mark (opened_if_any k.mark) m.last then redated_near (Some m) m.last b k else k

-- the 1012 so far, beside these epochs or dates
abbrev pub day_beside_marks : Option ClockMarks → Option ClockSpan → ClockSpan → ClockSpan
day_beside_marks e b k = kept_span (clock_anchored_if_any GlonassDay e (opened_span (redated_by_mark e b k)))

abbrev pub day_so_far : Option ClockMarks → Option ClockSpan → Option ClockSpan → Option ClockSpan
day_so_far e b None = None
day_so_far e b (Some k) = Some (day_beside_marks e b k)
