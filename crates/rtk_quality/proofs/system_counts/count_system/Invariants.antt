use Rattle.std.proofs.Common.{◌≡◌, length}
use Rattle.rtk_rinex.specs.MixedTable.{MixedTable, IsMixedTable, mixed_table_text}
use Rattle.rtk_quality.specs.Standing.{IsCounting}
use Rattle.rtk_quality.specs.SystemParts.{epochs_of_system}
use Rattle.rtk_quality.proofs.SystemLemmas.{HasComeMixed}
use Rattle.rtk_quality.proofs.system_counts.count_system.Given as goal

abbrev pub invariant-loop-record : goal.invariant-loop-record
invariant-loop-record l = record {
  size : length l.counts.satellites.items ≡ 221;
  codes : length l.counts.codes.items ≡ 221;
  counts : (t : MixedTable) → IsMixedTable t → l.table.text ≡ mixed_table_text t
      → HasComeMixed (λ counts es. IsCounting counts 221 l.interval l.unit_ms l.codes (epochs_of_system l.system es)) l.records l.counts t.epochs;
}

abbrev pub decreases-loop-record : goal.decreases-loop-record
decreases-loop-record l = length l.records.text
