use Rattle.std.proofs.Common.{◌≡◌, ◌≤◌, ◌++◌, length, drop}
use Rattle.rtk_compare.specs.Codes.{shared_of, shared_from}
use Rattle.rtk_compare.proofs.shared_codes.shared_of.Given as goal

abbrev pub invariant-loop-old : goal.invariant-loop-old
invariant-loop-old l = record {
  items : shared_of l.shifts l.olds l.news ≡ l.shared.items ++ shared_from l.shifts l.news l.old (drop l.old l.olds);
  few : length l.shared.items ≤ l.old;
}
