-- The clocks of GLONASS and BeiDou of a station in a capture (this project's rule). As long as no epoch came, the dates that 1013
-- and 1029 of the station name take the place of epochs, and one of them may be far from the messages beside it.
use Rattle.std.specs.Prelude.{ℕ, ◌-◌, ◌==◌, Bool, false, not, ◌&&◌, ◌||◌, nat_lt, Option, None, Some, unwrap_or, if◌then◌else◌}
use Rattle.std.specs.BTreeMap.{BTreeMap, get}
use Rattle.std.specs.Ordering.{nat_cmp}
use Rattle.rtk_survey.specs.ClockMarks.{opened_moment}
use Rattle.rtk_survey.specs.ClockSpans.{opened_span, last_message, clock_anchored, is_new_mark, clock_followed}
use Rattle.rtk_survey.specs.DayClocks.{day_followed, day_after_msm, redated_near_if_any, day_so_far}
use Rattle.rtk_survey.specs.FarDates.{first_far_date}
use Rattle.rtk_survey.specs.declared.clock_marks.ClockMarks.{ClockMarks}
use Rattle.rtk_survey.specs.declared.clock_spans.ClockSpan.{ClockSpan}
use Rattle.rtk_survey.specs.declared.clock_spans.FollowedClock.{FollowedClock}
use Rattle.rtk_survey.specs.declared.clock_spans.FollowedClock.TheVariants.{GlonassWeek, BeidouWeek, GlonassDay}
use Rattle.rtk_survey.specs.declared.clock_spans.FollowedSpan.{FollowedSpan}
use Rattle.rtk_survey.specs.declared.clock_spans.FollowedTime.{FollowedTime}
use Rattle.rtk_survey.specs.declared.date_message.UtcDate.{UtcDate}
use Rattle.rtk_survey.specs.declared.far_date.FarDate.{FarDate}
use Rattle.rtk_survey.specs.declared.station_clocks.StationClocks.{StationClocks}

-- ---- a date that is far from the messages beside it

-- constant
-- two moments are more than half a day apart
abbrev pub are_half_day_apart : ℕ → ℕ → Bool
are_half_day_apart s t = nat_lt 43_200_000 (s - t) || nat_lt 43_200_000 (t - s)

-- the last message of a clock came behind the last date, or at most half a day before it
abbrev pub is_message_beside : ClockMarks → FollowedSpan → Bool
is_message_beside m k = not (is_new_mark k.mark m.last && are_half_day_apart m.last (last_message k))

abbrev pub is_clock_beside : FollowedClock → ClockMarks → Option ClockSpan → Bool
is_clock_beside c m None = false
is_clock_beside c m (Some k) = is_message_beside m (clock_anchored c m (opened_span k))

-- a message of one of the clocks did
abbrev pub has_clock_beside : ClockMarks → StationClocks → Bool
has_clock_beside m s =
    is_clock_beside GlonassWeek m s.glonass || (is_clock_beside BeidouWeek m s.beidou || is_clock_beside GlonassDay m s.glonass_day)

abbrev pub last_if_any : FollowedClock → ClockMarks → Option ClockSpan → Option ℕ
last_if_any c m None = None
last_if_any c m (Some k) = Some (last_message (clock_anchored c m (opened_span k)))

abbrev pub one_of : Option ℕ → Option ℕ → Option ℕ
one_of None other = other
one_of (Some t) other = Some t

-- the last message of a clock, of GLONASS if it has one
abbrev pub last_of_clocks : ClockMarks → StationClocks → Option ℕ
last_of_clocks m s = one_of (last_if_any GlonassWeek m s.glonass) (one_of (last_if_any BeidouWeek m s.beidou) (last_if_any GlonassDay m s.glonass_day))

abbrev pub far_with_last : UtcDate → Option ℕ → Option FarDate
far_with_last d None = None
far_with_last d (Some t) = Some (record { date = d; epoch = t })

-- a date at this moment that comes behind this message, but is before it
abbrev pub far_if_before : UtcDate → ℕ → Option ℕ → Option FarDate
far_if_before d at None = None
far_if_before d at (Some t) = if nat_lt at t then Some (record { date = d; epoch = t }) else None

-- the last date, if it is far from the last message of each clock before it, and is before it or far from the message behind it
abbrev pub far_beside : UtcDate → ClockMarks → StationClocks → ℕ → Option FarDate
far_beside d m s t =
    if has_clock_beside m s then None else
    if are_half_day_apart m.last t then Some (record { date = d; epoch = t }) else far_if_before d m.last (last_of_clocks m s)

-- the same if the moments are of dates
abbrev pub far_from_message : Option UtcDate → ClockMarks → StationClocks → ℕ → Option FarDate
far_from_message None m s t = None
far_from_message (Some d) m s t = far_beside d m s t

-- the first of such dates, after a message more at this moment
abbrev pub far_with_message : Option ClockMarks → StationClocks → ℕ → Option FarDate
far_with_message None s t = s.far
far_with_message (Some m) s t = first_far_date s.far (far_from_message m.date m s t)

-- the last date, if no message came behind it, and it is far from the last one of each clock
abbrev pub far_at_end : Option UtcDate → ClockMarks → StationClocks → Option FarDate
far_at_end None m s = None
far_at_end (Some d) m s = if has_clock_beside m s then None else far_with_last d (last_of_clocks m s)

-- the clocks of a capture that ends, by its epochs or dates
unfoldable pub clocks_settled : Option ClockMarks → StationClocks → StationClocks
clocks_settled e s = record s { glonass_day = day_so_far e s.day_before s.glonass_day }

abbrev pub far_at_end_if_any : Option ClockMarks → StationClocks → Option FarDate
far_at_end_if_any None s = None
far_at_end_if_any (Some m) s = far_at_end m.date m s

-- the first date that is far from the messages beside it
unfoldable pub far_from_clocks : Option ClockMarks → StationClocks → Option FarDate
far_from_clocks e s = first_far_date s.far (far_at_end_if_any e (clocks_settled e s))

-- ---- the clocks of a station

abbrev pub no_station_clocks : StationClocks
no_station_clocks = record { glonass = None; beidou = None; glonass_day = None; day_before = None; far = None }

abbrev pub with_glonass_clock : Option ClockMarks → ClockSpan → StationClocks → StationClocks
with_glonass_clock e k s = record s {
  glonass = Some k;
  glonass_day = day_after_msm e k (redated_near_if_any e (opened_moment k.last) s.day_before s.glonass_day);
  day_before = None;
  far = far_with_message e s k.last;
}

abbrev pub with_beidou_clock : Option ClockMarks → ClockSpan → StationClocks → StationClocks
with_beidou_clock e k s = record s { beidou = Some k; far = far_with_message e s k.last }

-- behind these 1012
abbrev pub with_day_clock : Option ClockMarks → Option ClockSpan → ClockSpan → StationClocks → StationClocks
with_day_clock e before k s = record s { glonass_day = Some k; day_before = before; far = far_with_message e s k.last }

abbrev pub with_day_behind : Option ClockMarks → Option ClockSpan → ℕ → StationClocks → StationClocks
with_day_behind e before t s = with_day_clock e before (day_followed e s.glonass before t) s

-- table
-- a time more of a clock, after these epochs or dates
abbrev pub with_time_of_clock : FollowedClock → Option ClockMarks → ℕ → StationClocks → StationClocks
with_time_of_clock GlonassWeek e t s = with_glonass_clock e (clock_followed GlonassWeek e s.glonass t) s
with_time_of_clock BeidouWeek e t s = with_beidou_clock e (clock_followed BeidouWeek e s.beidou t) s
with_time_of_clock GlonassDay e t s = with_day_behind e (day_so_far e s.day_before s.glonass_day) t s

unfoldable pub with_followed_time : Option ClockMarks → FollowedTime → StationClocks → StationClocks
with_followed_time e told s = with_time_of_clock told.clock e told.time s

-- the clocks of a station; of one without an entry no clock is followed
abbrev pub clocks_by_station : BTreeMap ℕ StationClocks → ℕ → StationClocks
clocks_by_station clocks n = unwrap_or (get nat_cmp clocks n) no_station_clocks

-- the clocks of station n, after a time more of station k
abbrev pub with_time_for : ℕ → ℕ → Option ClockMarks → FollowedTime → StationClocks → StationClocks
with_time_for n k e told s = if k == n then with_followed_time e told s else s

abbrev pub with_time_for_if_any : ℕ → ℕ → Option ClockMarks → Option FollowedTime → StationClocks → StationClocks
with_time_for_if_any n k e None s = s
with_time_for_if_any n k e (Some told) s = with_time_for n k e told s
