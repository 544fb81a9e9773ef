use Rattle.std.proofs.Common.{◌≡◌, ◌<◌, length, drop, get_or, IsTrue}
use Rattle.rtk_collect.specs.Key.{KeysRise}
use Rattle.rtk_collect.proofs.signals.keys_rise.Given as goal

abbrev pub invariant-loop-at : goal.invariant-loop-at
invariant-loop-at g l = record {
  rises : IsTrue l.rises → KeysRise g.E.Entry.entries (drop l.at l.cells);
  within : l.at < length l.cells;
  above : (d : _) → l.above ≡ g.E.Entry.entries.place (get_or l.cells l.at d);
}

abbrev pub decreases-loop-at : goal.decreases-loop-at
decreases-loop-at g l = l.at
