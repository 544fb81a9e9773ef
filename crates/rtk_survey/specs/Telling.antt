-- Which moment a date message tells near a time of week (this project's rule). Moments are in ms since
-- 1980-01-06 00:00:00.000 of GPS time; the leap seconds between it and UTC are left out, since half a
-- week is the measure.
use Rattle.std.specs.Prelude.{ℕ, ◌+◌, ◌-◌, ◌*◌, ◌/◌, ◌%◌, ◌==◌, Bool, ◌&&◌, ◌||◌, nat_le, nat_lt, min, Option, None, Some, if◌then◌else◌}
use Rattle.rtk_message.specs.Fields.{week_ms}
use Rattle.rtk_survey.specs.declared.date_message.DateMessage.{DateMessage}
use Rattle.rtk_survey.specs.declared.date_message.DateMessage.TheVariants.{Utc, Ephemeris, OtherEphemeris}
use Rattle.rtk_survey.specs.declared.date_message.EphemerisDate.{EphemerisDate}
use Rattle.rtk_survey.specs.declared.date_message.UtcDate.{UtcDate}
use Rattle.rtk_survey.specs.declared.system_message.SystemWeek.{SystemWeek}

-- constant
abbrev pub half_week_ms : ℕ
half_week_ms = 302_400_000

-- constant
abbrev pub day_ms : ℕ
day_ms = 86_400_000

-- constant
-- the Modified Julian Day of 1980-01-06
abbrev pub first_day : ℕ
first_day = 44_244

-- formula
-- the moment with this time of week nearest to another moment; of two alike the earlier
abbrev pub dated : ℕ → ℕ → ℕ
dated near tow = (near - half_week_ms) + (tow + week_ms - (near - half_week_ms) % week_ms) % week_ms

-- formula
-- the moment with this time of week nearest to another moment; of two alike the later
abbrev pub nearest : ℕ → ℕ → ℕ
nearest at tow = dated (at + 1) tow

-- ---- a day and a second

-- formula
-- the moment of a day and a second (DF051, DF052); a day has no second after the 86,400th
abbrev pub moment_of : UtcDate → ℕ
moment_of d = day_ms * (d.day - first_day) + 1000 * min d.second 86_400

-- formula
-- the day of a moment
abbrev pub day_of : ℕ → ℕ
day_of t = first_day + t / day_ms

-- constant
-- the day is not before 1980-01-13, and a day has the second; other dates tell nothing
abbrev pub is_date : UtcDate → Bool
is_date d = nat_le 44_251 d.day && nat_le d.second 86_400

-- formula
-- a date that is not more than one day after that of now
abbrev pub is_possible : ℕ → UtcDate → Bool
is_possible now d = is_date d && nat_le d.day (day_of now + 1)

-- formula
-- a date that is more than one day after that of now
abbrev pub is_to_come : ℕ → UtcDate → Bool
is_to_come now d = is_date d && nat_lt (day_of now + 1) d.day

-- formula
abbrev pub told_by_utc : ℕ → UtcDate → ℕ → Option ℕ
told_by_utc now d tow = if is_possible now d then Some (nearest (moment_of d) tow) else None

-- ---- a week modulo 1,024

-- formula
-- the reference time of an ephemeris (in s) and a time of week (in ms) are more than half a week apart:
-- a week's end lies between, and senders differ there, so that the ephemeris tells nothing
abbrev pub are_apart : ℕ → ℕ → Bool
are_apart reference_time_s tow =
    nat_lt (tow + half_week_ms) (1000 * reference_time_s) || nat_lt (1000 * reference_time_s + half_week_ms) tow

-- formula
abbrev pub week_of : ℕ → ℕ
week_of t = t / week_ms

-- formula
-- how many weeks before the week of now the latest week is that is this one modulo 1,024 (DF076)
abbrev pub weeks_before : ℕ → ℕ → ℕ
weeks_before now week = (week_of now + 1024 - week) % 1024

-- formula
abbrev pub told_by_ephemeris : ℕ → EphemerisDate → ℕ → Option ℕ
told_by_ephemeris now e tow =
    if are_apart e.reference_time_s tow then None else
    if nat_lt (week_of now) (weeks_before now e.week) then None else
    Some (week_ms * (week_of now - weeks_before now e.week) + tow)

-- ---- a week of another system

-- constant
-- how many weeks a message tells apart: the week of a 1042 has 13 bits (DF489), that of a 1045 or 1046 12 bits (DF289)
abbrev pub weeks_told_apart : ℕ → ℕ
weeks_told_apart number = if number == 1042 then 8192 else 4096

-- constant
-- the week of GPS that is week 0 of the system: of BeiDou that of 2006-01-01, of Galileo that of 1999-08-22
abbrev pub first_week_of : ℕ → ℕ
first_week_of number = if number == 1042 then 1356 else 1024

-- formula
-- how many weeks before the week of now the latest week is that the message may name
abbrev pub system_weeks_before : ℕ → SystemWeek → ℕ
system_weeks_before now w = (week_of now + 2 * weeks_told_apart w.number - (w.week + first_week_of w.number)) % weeks_told_apart w.number

-- formula
-- the 14 s by which the clock of BeiDou is behind GPS time are left out too
abbrev pub told_by_system_week : ℕ → SystemWeek → ℕ → Option ℕ
told_by_system_week now w tow =
    if are_apart w.reference_time_s tow then None else
    if nat_lt (week_of now) (system_weeks_before now w) then None else
    Some (week_ms * (week_of now - system_weeks_before now w) + tow)

-- ---- each message

-- the moment that a message tells of an epoch with this time of week, by the present
abbrev pub told : ℕ → DateMessage → ℕ → Option ℕ
told now (Utc d) tow = told_by_utc now d tow
told now (Ephemeris e) tow = told_by_ephemeris now e tow
told now (OtherEphemeris w) tow = told_by_system_week now w tow

-- ---- a capture without an epoch

-- formula
-- the reference time of an ephemeris in its week, if a week has such a time
abbrev pub own_moment_of_ephemeris : ℕ → EphemerisDate → Option ℕ
own_moment_of_ephemeris now e =
    if nat_lt (1000 * e.reference_time_s) week_ms then told_by_ephemeris now e (1000 * e.reference_time_s) else None

-- formula
abbrev pub own_moment_of_system_week : ℕ → SystemWeek → Option ℕ
own_moment_of_system_week now w =
    if nat_lt (1000 * w.reference_time_s) week_ms then told_by_system_week now w (1000 * w.reference_time_s) else None

-- formula
-- the moment that a message names itself, by the present
abbrev pub own_moment : ℕ → DateMessage → Option ℕ
own_moment now (Utc d) = if is_possible now d then Some (moment_of d) else None
own_moment now (Ephemeris e) = own_moment_of_ephemeris now e
own_moment now (OtherEphemeris w) = own_moment_of_system_week now w
