use Rattle.std.proofs.Common.{◌≡◌, ◌++◌, drop, take, length, ◌≤◌, ◌+◌, decimal}
use Rattle.rtk_rinex.proofs.columns.put_decimal.Given as goal

abbrev pub invariant-loop-rest : goal.invariant-loop-rest
invariant-loop-rest l = record {
  room : length (decimal l.rest) ≤ l.at;
  within : l.at ≤ length l.field;
  before : take l.at l.field ≡ take l.at l.fn.field;
  start : l.at + length (decimal l.number) ≡ length (decimal l.rest) + length l.field;
  written : decimal l.rest ++ drop l.at l.field ≡ decimal l.number;
}

abbrev pub decreases-loop-rest : goal.decreases-loop-rest
decreases-loop-rest l = l.rest
