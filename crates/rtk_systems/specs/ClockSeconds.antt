-- The leap seconds by which clocks of GLONASS, which tell UTC, are compared with those of GPS (this project's rule).
use Rattle.std.specs.Prelude.{ℕ, ◌+◌, ◌*◌, ◌%◌, min, Option, None, Some}
use Rattle.rtk_obs.specs.declared.time.TheConstants.{LAST_MS}
use Rattle.rtk_survey.specs.ClockLines.{leap_seconds_by}
use Rattle.rtk_survey.specs.Telling.{day_ms, dated}
use Rattle.rtk_systems.specs.declared.clock_seconds.ClockSeconds.{ClockSeconds}

-- constant
-- noon on the day of the week (0 for Sunday) that lies nearest to a moment. A leap second comes at midnight of UTC, which is
-- a few seconds from that of GPS time, so all of the day in UTC has the leap seconds of this noon
abbrev pub noon_near : ℕ → ℕ → ℕ
noon_near near day = min (dated near (day_ms * (day % 7) + 43_200_000)) LAST_MS

-- those of the table on a day
abbrev pub table_on : ℕ → ℕ → ℕ
table_on near day = leap_seconds_by (noon_near near day)

-- those that are given; else those of the table on a day
abbrev pub given_or_table_on : Option ℕ → ℕ → ℕ → ℕ
given_or_table_on None near day = table_on near day
given_or_table_on (Some given) near day = given

abbrev pub seconds_on : ClockSeconds → ℕ → ℕ
seconds_on s day = given_or_table_on s.given s.near day
