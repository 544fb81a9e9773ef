use Rattle.std.proofs.Common.{◌≡◌, length}
use Rattle.rtk_rinex.specs.MixedRecords.{AreMixedLeft}
use Rattle.rtk_rinex.specs.MixedTable.{MixedTable, IsMixedTable, mixed_table_text}
use Rattle.rtk_tracking.specs.Standing.{StandsForStepsBetween}
use Rattle.rtk_tracking.proofs.RecordLemmas.{HasComeBy}
use Rattle.rtk_tracking.proofs.intervals.mixed_interval.Given as goal

abbrev pub invariant-loop-rows : goal.invariant-loop-rows
invariant-loop-rows l = (t : MixedTable) → IsMixedTable t → l.table.text ≡ mixed_table_text t → HasComeBy StandsForStepsBetween (AreMixedLeft l.records) l.steps t.epochs

abbrev pub decreases-loop-rows : goal.decreases-loop-rows
decreases-loop-rows l = length l.records.text
