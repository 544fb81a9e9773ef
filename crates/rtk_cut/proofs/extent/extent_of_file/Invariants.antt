use Rattle.std.proofs.Common.{[], List}
use Rattle.rtk_rinex.specs.Record.{EpochTableView}
use Rattle.rtk_cut.specs.Cut.{kept_after}
use Rattle.rtk_cut.proofs.ExtentLemmas.{HasNotedIn}
use Rattle.rtk_cut.proofs.extent.extent_of_file.Given as goal

abbrev pub invariant-loop-read : goal.invariant-loop-read
invariant-loop-read g l =
    (epochs : List EpochTableView) → g.F.EpochFile.AreLeft l.fn.file epochs
    → HasNotedIn (g.F.EpochFile.AreLeft l.source) l.steps l.fn.choice (kept_after l.fn.choice [] epochs)

abbrev pub decreases-loop-read : goal.decreases-loop-read
decreases-loop-read g l = g.F.EpochFile.size l.source
