use Rattle.std.proofs.Common.{◌≡◌, ◌++◌, drop, length, ◌≤◌}
use Rattle.rtk_obs.specs.CivilText.{last_digits}
use Rattle.rtk_rinex.proofs.columns.put_last_digits.Given as goal

abbrev pub invariant-loop-at : goal.invariant-loop-at
invariant-loop-at l = record {
  within : l.at ≤ length l.field;
  written : last_digits l.at l.rest ++ drop l.at l.field ≡ last_digits (length l.field) l.number;
}

abbrev pub decreases-loop-at : goal.decreases-loop-at
decreases-loop-at l = l.at
