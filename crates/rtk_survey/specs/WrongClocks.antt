-- Systems whose clocks are wrong, which the command of a station leaves out (this project's rule).
use Rattle.std.specs.Prelude.{ℕ, ◌-◌, ◌==◌, Bool, false, ◌&&◌, nat_le, nat_lt, List, Option, None, Some, if◌then◌else◌}
use Rattle.std.specs.List.{sum_by}
use Rattle.rtk_message.specs.Fields.{week_ms}
use Rattle.rtk_message.specs.declared.system.System.{System}
use Rattle.rtk_message.specs.declared.system.System.TheVariants.{Gps, Glonass, Galileo, Beidou, Qzss, Sbas, Navic}
use Rattle.rtk_survey.specs.ClockLines.{gps_ahead_with, leap_seconds_by, told_gps}
use Rattle.rtk_survey.specs.Counting.{shown_count}
use Rattle.rtk_survey.specs.Telling.{moment_of}
use Rattle.rtk_survey.specs.declared.clock_chains.ClockOffset.{ClockOffset}
use Rattle.rtk_survey.specs.declared.clock_chains.ClockOffsets.{ClockOffsets}
use Rattle.rtk_survey.specs.declared.date_message.UtcDate.{UtcDate}

-- how many clocks have this offset, if it is 0 of GPS time with so many leap seconds
abbrev pub count_if_right : ℕ → ClockOffset → ℕ
count_if_right n o = if gps_ahead_with n o.ahead_ms == 0 then o.count else 0

-- how many clocks are right
abbrev pub right_clocks : ℕ → List ClockOffset → ℕ
right_clocks n os = shown_count (sum_by (count_if_right n) os)

-- constant
-- an offset of 500 ms or more, which more clocks have than are right
abbrev pub is_wrong : ℕ → Option ClockOffset → Bool
is_wrong right None = false
is_wrong right (Some o) = nat_le 500 o.ahead_ms && (nat_le o.ahead_ms (week_ms - 500) && nat_lt right o.count)

abbrev pub are_wrong : ℕ → List ClockOffset → Bool
are_wrong n os = is_wrong (right_clocks n os) (told_gps n os)

-- clocks of GLONASS, with the leap seconds of a date; without a date none is known to be wrong
abbrev pub are_wrong_at : Option UtcDate → List ClockOffset → Bool
are_wrong_at None os = false
are_wrong_at (Some d) os = are_wrong (leap_seconds_by (moment_of d)) os

-- table
-- the clocks of a system are wrong; that of GPS times the chains
unfoldable pub is_system_wrong : Option UtcDate → ClockOffsets → System → Bool
is_system_wrong date s Gps = false
is_system_wrong date s Glonass = are_wrong_at date s.glonass.items
is_system_wrong date s Galileo = are_wrong 0 s.galileo.items
is_system_wrong date s Beidou = are_wrong 0 s.beidou.items
is_system_wrong date s Qzss = are_wrong 0 s.qzss.items
is_system_wrong date s Sbas = are_wrong 0 s.sbas.items
is_system_wrong date s Navic = are_wrong 0 s.navic.items
