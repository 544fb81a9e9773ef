use Rattle.std.proofs.Common.{◌≡◌, ◌≤◌, List}
use Rattle.rtk_rinex.specs.Record.{EpochTableView}
use Rattle.rtk_cut.specs.Cut.{IsStepOrNone}
use Rattle.rtk_cut.specs.Steps.PartFile.{writing}
use Rattle.rtk_cut.proofs.WholeLemmas.{HasCut}
use Rattle.rtk_cut.proofs.part_file.cut_file.Given as goal

abbrev pub invariant-loop-read : goal.invariant-loop-read
invariant-loop-read g l = record {
  step : IsStepOrNone l.writer.choice.every;
  near : l.writer.choice.near_ms ≤ 25;
  so_far : (epochs : List EpochTableView) → g.F.EpochFile.AreLeft l.fn.file epochs
      → HasCut (g.F.EpochFile.AreLeft l.writer.file) l.fn.choice (g.F.EpochFile.texts l.fn.file) epochs (writing g.F.EpochFile.texts g.F.EpochFile.marks l.writer) l.writer.counts (g.W.Sink.taken l.fn.out) (g.W.Sink.taken l.out);
  failures : g.W.Sink.failures l.out ≡ g.W.Sink.failures l.fn.out;
}

abbrev pub decreases-loop-read : goal.decreases-loop-read
decreases-loop-read g l = g.F.EpochFile.size l.writer.file
