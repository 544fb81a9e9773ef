use Rattle.std.proofs.Common.{◌≡◌, ◌≤◌, ◌+◌, length, drop, vec_capacity, ◌++◌}
use Rattle.rtk_collect.specs.Key.{KeysRise}
use Rattle.rtk_collect.specs.EpochSet.{fresh, with_cells, conflicts}
use Rattle.rtk_collect.proofs.merging.merge.Given as goal

-- to join the cells that are left of the message gives the whole result
abbrev pub invariant-loop-entry : goal.invariant-loop-entry
invariant-loop-entry g l = record {
  at : l.at ≤ length l.kept.items;
  rises : KeysRise g.E.Entry.entries l.kept.items;
  room : length l.kept.items + fresh g.E.Entry.entries (drop l.entry-index l.cells) l.kept.items ≤ vec_capacity l.kept;
  few : length l.found ≤ l.entry-index;
  items : with_cells g.E.Entry.entries (drop l.entry-index l.cells) l.kept.items ≡ with_cells g.E.Entry.entries l.cells l.fn.kept.items;
  conflicts : l.found ++ conflicts g.E.Entry.entries (drop l.entry-index l.cells) l.kept.items ≡ conflicts g.E.Entry.entries l.cells l.fn.kept.items;
}
