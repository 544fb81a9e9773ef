-- The moment of a time that GLONASS tells.
-- Source: RTCM 10403.3, DF034 and DF416
use Rattle.std.specs.Prelude.{◌≡◌, ℕ, ◌+◌, ◌-◌, ◌*◌, ◌/◌, ◌%◌, ◌^◌, ◌<◌, ◌≤◌, Option, Some, None, nat_lt, if◌then◌else◌}
use Rattle.rtk_message.specs.Fields.{week_ms}
use Rattle.rtk_obs.specs.declared.glonass_time.GlonassTime.{GlonassTime}
use Rattle.rtk_obs.specs.Dating.{IsDated}
use Rattle.rtk_obs.specs.LeapSeconds.{leap_start, IsLastRow}

-- formula
-- a day of the week (DF416), of which 7 is unknown
abbrev pub known_day : ℕ → Option ℕ
known_day d = if nat_lt d 7 then Some d else None

-- formula
-- the clock of an MSM: the day of the week (DF416, 3 bits) before the time of day (DF034, 27 bits)
abbrev pub glonass_time_of : ℕ → GlonassTime
glonass_time_of clock = record { day = known_day (clock / 2 ^ 27); time_of_day_ms = clock % 2 ^ 27 }

-- formula
-- the GPS time of week, in ms, of a day and a time of day in Moscow, with n leap seconds. Moscow is 3 h
-- ahead of UTC, and GPS time n s; a week is added before the 3 h are taken away
abbrev pub glonass_tow : ℕ → ℕ → ℕ → ℕ
glonass_tow day ms n = (86_400_000 * day + ms + 1000 * n + (week_ms - 10_800_000)) % week_ms

-- formula
-- the GPS time of day, in ms, of a time of day in Moscow, with n leap seconds
abbrev pub glonass_tod : ℕ → ℕ → ℕ
glonass_tod ms n = (ms + 1000 * n + (86_400_000 - 10_800_000)) % 86_400_000

-- formula
-- t has this time of day; it is not less than half a day before the reference, and less than half a day
-- after it
pub record IsDatedInDay (near tod t : ℕ) : Type 0 where
  pub time_of_day : t % 86_400_000 ≡ tod
  pub from : near ≤ t + 43_200_000
  pub before : t < near + 43_200_000

-- the moment of a day, if it is known, and a time of day in Moscow, with n leap seconds
abbrev pub IsMoscowMoment : ℕ → Option ℕ → ℕ → ℕ → ℕ → Type 0
IsMoscowMoment near (Some day) ms n t = IsDated near (glonass_tow day ms n) t
IsMoscowMoment near None ms n t = IsDatedInDay near (glonass_tod ms n) t

-- the moment that a number of leap seconds gives
abbrev pub IsMomentWith : ℕ → GlonassTime → ℕ → ℕ → Type 0
IsMomentWith near g n t = IsMoscowMoment near g.day g.time_of_day_ms n t

-- the moment that n leap seconds give is not before the GPS time from which on there are n
pub record HasBegunBy (near : ℕ) (g : GlonassTime) (n : ℕ) : Type 0 where
  pub moment : ℕ
  pub is_moment : IsMomentWith near g n moment
  pub begun : leap_start n ≤ moment

-- the number of leap seconds of a message: the given one, or else the last row of the table that has
-- begun by the moment that its own number gives (this project's rule)
abbrev pub IsNumberOf : ℕ → GlonassTime → Option ℕ → ℕ → Type 0
IsNumberOf near g (Some given) n = n ≡ given
IsNumberOf near g None n = IsLastRow (HasBegunBy near g) n

-- the moment of a time that GLONASS tells
pub record IsGlonassMoment (near : ℕ) (g : GlonassTime) (given : Option ℕ) (t : ℕ) : Type 0 where
  pub leap_seconds : ℕ
  pub number : IsNumberOf near g given leap_seconds
  pub moment : IsMomentWith near g leap_seconds t
