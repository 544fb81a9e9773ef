use Rattle.std.proofs.Common.{◌≡◌, ◌*◌, [], length}
use Rattle.rtk_rinex.specs.MixedTable.{MixedTable, IsMixedTable, mixed_table_text}
use Rattle.rtk_chart.specs.Groups.{group_epochs}
use Rattle.rtk_chart.specs.Means.{columns_of}
use Rattle.rtk_chart.specs.Steps.Standing.{StandsForGrid}
use Rattle.rtk_chart.proofs.GroupLemmas.{HasComeOfAny}
use Rattle.rtk_chart.proofs.group_rows.fill_group.Given as goal

abbrev pub invariant-loop-record : goal.invariant-loop-record
invariant-loop-record l = record {
  bins : length l.grid.bins.items ≡ l.drawing.scale.bins;
  outages : length l.grid.outages.items ≡ 32 * l.drawing.scale.bins;
  grid : (t : MixedTable) → IsMixedTable t → l.drawing.table.now.text ≡ mixed_table_text t
      → HasComeOfAny (λ grid es. StandsForGrid grid l.drawing.scale l.lower (group_epochs l.drawing.choice.now l.group es)) l.records l.grid t.epochs;
  columns : l.fn.columns.items ≡ columns_of l.drawing.scale l.upper [] → (t : MixedTable) → IsMixedTable t → l.drawing.table.now.text ≡ mixed_table_text t
      → HasComeOfAny (λ columns es. columns.items ≡ columns_of l.drawing.scale l.upper (group_epochs l.drawing.choice.now l.group es)) l.records l.columns t.epochs;
}

abbrev pub decreases-loop-record : goal.decreases-loop-record
decreases-loop-record l = length l.records.text
