use Rattle.rtk_rinex.specs.Record.{EpochTableView}
use Rattle.rtk_cut.specs.Steps.MixedFile.{IsRecordIn}
use Rattle.rtk_cut.proofs.KeptFileLemmas.{HasSought}
use Rattle.rtk_cut.proofs.kept_file.keeps_some.Given as goal

abbrev pub invariant-loop-satellite : goal.invariant-loop-satellite
invariant-loop-satellite l = (e : EpochTableView) → IsRecordIn l.read e → HasSought l.kept e.rows l.rows

abbrev pub decreases-loop-satellite : goal.decreases-loop-satellite
decreases-loop-satellite l = l.rows.count
