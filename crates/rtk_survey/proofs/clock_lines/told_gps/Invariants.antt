use Rattle.std.proofs.Common.{◌≡◌, None, drop}
use Rattle.rtk_survey.specs.ClockLines.{told_gps_after}
use Rattle.rtk_survey.proofs.clock_lines.told_gps.Given as goal

abbrev pub invariant-loop-offset : goal.invariant-loop-offset
invariant-loop-offset l = told_gps_after l.leap_seconds l.told (drop l.offset-index l.offsets) ≡ told_gps_after l.leap_seconds None l.offsets
