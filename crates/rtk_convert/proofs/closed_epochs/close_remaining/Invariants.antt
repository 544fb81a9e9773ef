use Rattle.std.proofs.Common.{◌≡◌, length, map}
use Rattle.rtk_rinex.specs.Header.{position_view}
use Rattle.rtk_convert.specs.Epochs.{set_of}
use Rattle.rtk_convert.specs.Steps.Closing.{AllAbove}
use Rattle.rtk_convert.proofs.FinishLemmas.{SomeClosed}
use Rattle.rtk_convert.proofs.closed_epochs.close_remaining.Given as goal

abbrev pub invariant-left : goal.invariant-left
invariant-left g l = record {
  some : SomeClosed l.fn.setup (position_view l.fn.position) (map (set_of g.E.FileEntry.signal_of) l.fn.left.sets) (map (set_of g.E.FileEntry.signal_of) l.left.sets) l.fn.closed_epochs l.closed_epochs
      (g.O.Sink.taken l.fn.out) (g.O.Sink.taken l.out);
  above : AllAbove l.closed_epochs (map (set_of g.E.FileEntry.signal_of) l.left.sets);
  failures : g.O.Sink.failures l.out ≡ g.O.Sink.failures l.fn.out;
}

abbrev pub decreases-left : goal.decreases-left
decreases-left g l = length l.left.sets
