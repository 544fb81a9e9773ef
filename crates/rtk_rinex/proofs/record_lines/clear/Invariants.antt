use Rattle.std.proofs.Common.{◌≡◌, ◌≤◌, ◌-◌, ◌++◌, length, replicate, drop}
use Rattle.rtk_rinex.proofs.record_lines.clear.Given as goal

abbrev pub invariant-loop-at : goal.invariant-loop-at
invariant-loop-at l = record {
  blank : l.part ≡ replicate l.at 32 ++ drop l.at l.fn.part;
  within : l.at ≤ length l.fn.part;
}

abbrev pub decreases-loop-at : goal.decreases-loop-at
decreases-loop-at l = length l.part - l.at
