-- The civil reading of a moment of GPS time, as a function.
use Rattle.std.specs.Prelude.{◌≤◌, ℕ, zero, suc, ◌+◌, ◌/◌, ◌%◌, pos, nat_lt, if◌then◌else◌}
use Rattle.jiff_core.specs.Calendar.{days_in_month}
use Rattle.rtk_obs.specs.declared.time.Civil.{Civil}

-- constant
-- a moment of GPS time, in ms since 1980-01-06 00:00:00.000: to 2100-12-31 23:59:59.999 (this
-- project's rule)
abbrev pub IsMoment : ℕ → Type 0
IsMoment t = t ≤ 3_818_015_999_999

-- a date of the Gregorian calendar
pub record CivilDate : Type 0 where
  pub year : ℕ
  pub month : ℕ
  pub day : ℕ

-- formula
-- the date after a date: the next day of the month, else the first of the next month, else of the
-- next year
abbrev pub next_date : CivilDate → CivilDate
next_date d =
    if nat_lt d.day (days_in_month (pos d.year) d.month) then record d { day = d.day + 1 }
    else (if nat_lt d.month 12 then record { year = d.year; month = d.month + 1; day = 1 }
    else record { year = d.year + 1; month = 1; day = 1 })

-- formula
-- the date that many days after 1980-01-06
unfoldable pub date_after : ℕ → CivilDate
date_after zero = record { year = 1980; month = 1; day = 6 }
date_after (suc k) = next_date (date_after k)

-- formula
-- the reading of a moment, in days of 86,400 seconds (GPS time has no leap seconds)
abbrev pub reading_of : ℕ → Civil
reading_of t =
    let date = date_after (t / 86_400_000) in
    record {
      year = date.year;
      month = date.month;
      day = date.day;
      hour = t / 3_600_000 % 24;
      minute = t / 60_000 % 60;
      second = t / 1000 % 60;
      millisecond = t % 1000;
    }
