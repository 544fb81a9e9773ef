use Rattle.std.proofs.Common.{◌≡◌, length}
use Rattle.rtk_rinex.specs.Table.{WellFormedTable, IsWellFormedTable, table_text}
use Rattle.rtk_tracking.proofs.PublicLaws.{HasCome}
use Rattle.rtk_quality.specs.Standing.{IsCounting}
use Rattle.rtk_quality.proofs.file_counts.count_file.Given as goal

abbrev pub invariant-loop-record : goal.invariant-loop-record
invariant-loop-record l = record {
  size : length l.counts.satellites.items ≡ 32;
  codes : length l.counts.codes.items ≡ 32;
  counts : (t : WellFormedTable) → IsWellFormedTable t → l.table.text ≡ table_text t
      → HasCome (λ counts es. IsCounting counts 32 l.interval l.unit_ms l.codes es) l.records l.counts t.epochs;
}

abbrev pub decreases-loop-record : goal.decreases-loop-record
decreases-loop-record l = length l.records.text
