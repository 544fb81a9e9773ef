use Rattle.std.proofs.Common.{◌≡◌, ◌≤◌, ◌+◌, ◌++◌, length, drop}
use Rattle.rtk_collect.specs.Key.{KeysRise}
use Rattle.rtk_collect.specs.EpochSet.{fresh, conflicts}
use Rattle.rtk_collect.proofs.merging.count_new.Given as goal

abbrev pub invariant-loop-entry : goal.invariant-loop-entry
invariant-loop-entry g l = record {
  at : l.at ≤ length l.kept;
  bound : l.count ≤ l.entry-index;
  count : l.count + fresh g.E.Entry.entries (drop l.entry-index l.cells) l.kept ≡ fresh g.E.Entry.entries l.cells l.kept;
  few : length l.found ≤ l.entry-index;
  rising : KeysRise g.E.Entry.entries l.cells → l.found ++ conflicts g.E.Entry.entries (drop l.entry-index l.cells) l.kept ≡ conflicts g.E.Entry.entries l.cells l.kept;
  conflicts : l.count ≡ 0 → l.found ++ conflicts g.E.Entry.entries (drop l.entry-index l.cells) l.kept ≡ conflicts g.E.Entry.entries l.cells l.kept;
}
