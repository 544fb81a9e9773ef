use Rattle.std.proofs.Common.{◌≡◌, ◌*◌, [], length}
use Rattle.rtk_rinex.specs.MixedTable.{MixedTable, IsMixedTable, mixed_table_text}
use Rattle.rtk_chart.specs.Steps.Standing.{StandsForGrid, bare_epochs}
use Rattle.rtk_chart.proofs.GroupLemmas.{HasComeOfAny}
use Rattle.rtk_chart.proofs.group_rows.fill_moments.Given as goal

abbrev pub invariant-loop-record : goal.invariant-loop-record
invariant-loop-record l = record {
  gaps : length l.grid.gaps.items ≡ l.scale.bins;
  outages : length l.grid.outages.items ≡ 32 * l.scale.bins;
  grid : (t : MixedTable) → IsMixedTable t → l.table.text ≡ mixed_table_text t → HasComeOfAny (λ grid es. StandsForGrid grid l.scale [] (bare_epochs es)) l.records l.grid t.epochs;
}

abbrev pub decreases-loop-record : goal.decreases-loop-record
decreases-loop-record l = length l.records.text
