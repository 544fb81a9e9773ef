use Rattle.std.proofs.Common.{◌≡◌, ◌*◌, map, length}
use Rattle.rtk_rinex.specs.Table.{WellFormedTable, IsWellFormedTable, table_text}
use Rattle.rtk_chart.specs.Choice.{narrowed}
use Rattle.rtk_chart.specs.Steps.Standing.{StandsForGrid}
use Rattle.rtk_tracking.proofs.PublicLaws.{HasCome}
use Rattle.rtk_chart.proofs.passes.fill_grid.Given as goal

abbrev pub invariant-loop-record : goal.invariant-loop-record
invariant-loop-record l = record {
  bins : length l.grid.bins.items ≡ l.scale.bins;
  outages : length l.grid.outages.items ≡ 32 * l.scale.bins;
  gaps : length l.grid.gaps.items ≡ l.scale.bins;
  grid : (t : WellFormedTable) → IsWellFormedTable t → l.table.text ≡ table_text t → HasCome (λ grid es. StandsForGrid grid l.scale l.bands (map (narrowed l.choice) es)) l.records l.grid t.epochs;
}

abbrev pub decreases-loop-record : goal.decreases-loop-record
decreases-loop-record l = length l.records.text
