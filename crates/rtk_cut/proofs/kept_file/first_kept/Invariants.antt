use Rattle.std.proofs.Common.{List, length}
use Rattle.rtk_rinex.specs.Record.{EpochTableView}
use Rattle.rtk_rinex.specs.MixedRecords.{AreMixedLeft}
use Rattle.rtk_cut.proofs.KeptFileLemmas.{HasFirst}
use Rattle.rtk_cut.proofs.kept_file.first_kept.Given as goal

abbrev pub invariant-loop-read : goal.invariant-loop-read
invariant-loop-read l = (epochs : List EpochTableView) → AreMixedLeft l.fn.records epochs → HasFirst l.kept l.otherwise epochs l.rest

abbrev pub decreases-loop-read : goal.decreases-loop-read
decreases-loop-read l = length l.rest.text
