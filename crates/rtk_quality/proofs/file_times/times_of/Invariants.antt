use Rattle.std.proofs.Common.{◌≡◌, length}
use Rattle.rtk_rinex.specs.MixedTable.{MixedTable, IsMixedTable, mixed_table_text}
use Rattle.rtk_quality.specs.Standing.{IsTimesOf}
use Rattle.rtk_quality.proofs.SystemLemmas.{HasComeMixed}
use Rattle.rtk_quality.proofs.file_times.times_of.Given as goal

abbrev pub invariant-loop-record : goal.invariant-loop-record
invariant-loop-record l =
    (t : MixedTable) → IsMixedTable t → l.table.text ≡ mixed_table_text t → HasComeMixed (λ times es. IsTimesOf times l.unit_ms es) l.records l.times t.epochs

abbrev pub decreases-loop-record : goal.decreases-loop-record
decreases-loop-record l = length l.records.text
