use Rattle.std.proofs.Common.{◌≡◌, None, drop}
use Rattle.rtk_survey.specs.ClockLines.{told_offset_after}
use Rattle.rtk_survey.proofs.clock_lines.told_offset.Given as goal

abbrev pub invariant-loop-offset : goal.invariant-loop-offset
invariant-loop-offset l = told_offset_after l.told (drop l.offset-index l.offsets) ≡ told_offset_after None l.offsets
