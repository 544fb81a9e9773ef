use Rattle.std.proofs.Common.{◌≡◌, length}
use Rattle.rtk_rinex.specs.Record.{EpochTableView}
use Rattle.rtk_cut.specs.Steps.MixedFile.{IsRecordIn}
use Rattle.rtk_cut.proofs.MixedFileLemmas.{HasNoted}
use Rattle.rtk_cut.proofs.mixed_file.note_record.Given as goal

abbrev pub invariant-loop-satellite : goal.invariant-loop-satellite
invariant-loop-satellite l = record {
  size : length l.marks ≡ length l.fn.marks;
  so_far : (e : EpochTableView) → IsRecordIn l.read e → HasNoted l.fn.marks l.marks e.rows l.rows;
}

abbrev pub decreases-loop-satellite : goal.decreases-loop-satellite
decreases-loop-satellite l = l.rows.count
