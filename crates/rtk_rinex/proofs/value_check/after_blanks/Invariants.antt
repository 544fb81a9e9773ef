use Rattle.std.proofs.Common.{◌≡◌, ◌-◌, ◌≤◌, length, take, replicate}
use Rattle.rtk_rinex.proofs.value_check.after_blanks.Given as goal

abbrev pub invariant-loop-start : goal.invariant-loop-start
invariant-loop-start l = record {
  blanks : take l.start l.text ≡ replicate l.start 32;
  within : l.start ≤ length l.text;
}

abbrev pub decreases-loop-start : goal.decreases-loop-start
decreases-loop-start l = length l.text - l.start
