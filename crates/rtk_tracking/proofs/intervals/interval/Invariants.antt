use Rattle.std.proofs.Common.{◌≡◌, length}
use Rattle.rtk_rinex.specs.Table.{WellFormedTable, IsWellFormedTable, table_text}
use Rattle.rtk_tracking.specs.Standing.{StandsForStepsBetween}
use Rattle.rtk_tracking.proofs.RecordLemmas.{HasCome}
use Rattle.rtk_tracking.proofs.intervals.interval.Given as goal

abbrev pub invariant-loop-time : goal.invariant-loop-time
invariant-loop-time l = (t : WellFormedTable) → IsWellFormedTable t → l.table.text ≡ table_text t → HasCome StandsForStepsBetween l.records l.steps t.epochs

abbrev pub decreases-loop-time : goal.decreases-loop-time
decreases-loop-time l = length l.records.text
