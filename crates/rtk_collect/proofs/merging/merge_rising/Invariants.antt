use Rattle.std.proofs.Common.{◌≡◌, ◌<◌, ◌-◌, ◌+◌, take, get_or}
use Rattle.rtk_collect.specs.Key.{key}
use Rattle.rtk_collect.proofs.MergesLemmas.{Puts}
use Rattle.rtk_collect.proofs.merging.merge_rising.Given as goal

-- what stands in its place, after the kept cells and cells that are still to be put, is the end of the whole
abbrev pub invariant-loop-left : goal.invariant-loop-left
invariant-loop-left g l = record {
  puts : Puts g.E.Entry.entries l.cells (take l.kept l.fn.list) l.list l.next l.left l.gap;
  last : 0 < l.left → (d : _) → l.last ≡ key g.E.Entry.entries (get_or l.list (l.left - 1) d);
  wanted : 0 < l.next → (d : _) → l.wanted ≡ key g.E.Entry.entries (get_or l.cells (l.next - 1) d);
}

abbrev pub decreases-loop-left : goal.decreases-loop-left
decreases-loop-left g l = l.left + l.next
