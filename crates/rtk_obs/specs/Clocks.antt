-- The moment of the clock of a system, the 30 bits after the station ID of its MSM.
-- Source: RTCM 10403.3, DF004, DF034, DF248, DF416, DF427, DF428 and DF546
use Rattle.std.specs.Prelude.{ℕ, ◌+◌, ◌%◌, ◌^◌, ◌<◌, Option}
use Rattle.rtk_message.specs.Fields.{week_ms}
use Rattle.rtk_message.specs.declared.system.System.{System}
use Rattle.rtk_message.specs.declared.system.System.TheVariants.{Gps, Glonass, Galileo, Beidou, Qzss, Sbas, Navic}
use Rattle.rtk_obs.specs.Dating.{IsDated}
use Rattle.rtk_obs.specs.GlonassTime.{glonass_time_of, IsGlonassMoment}

-- table
-- the clock tells a time: that of GLONASS a time of day, with or without a day, in a day that can end with
-- a leap second; that of any other system a time of week
abbrev pub IsClock : System → ℕ → Type 0
IsClock Gps c = c < week_ms
IsClock Glonass c = c % 2 ^ 27 < 86_401_000
IsClock Galileo c = c < week_ms
IsClock Beidou c = c < week_ms
IsClock Qzss c = c < week_ms
IsClock Sbas c = c < week_ms
IsClock Navic c = c < week_ms

-- formula
-- the GPS time of week of a BeiDou time of week, in ms: GPS time is 14 s ahead of BeiDou time
abbrev pub beidou_tow : ℕ → ℕ
beidou_tow c = (c + 14_000) % week_ms

-- table
-- the moment of a clock near a reference; a number of leap seconds may be given
abbrev pub IsClockMoment : System → ℕ → ℕ → Option ℕ → ℕ → Type 0
IsClockMoment Gps near c given t = IsDated near c t
IsClockMoment Glonass near c given t = IsGlonassMoment near (glonass_time_of c) given t
IsClockMoment Galileo near c given t = IsDated near c t
IsClockMoment Beidou near c given t = IsDated near (beidou_tow c) t
IsClockMoment Qzss near c given t = IsDated near c t
IsClockMoment Sbas near c given t = IsDated near c t
IsClockMoment Navic near c given t = IsDated near c t
