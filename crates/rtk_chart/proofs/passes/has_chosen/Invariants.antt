use Rattle.std.proofs.Common.{◌≡◌, false, length}
use Rattle.std.specs.List.{list_any}
use Rattle.rtk_rinex.specs.Table.{WellFormedTable, IsWellFormedTable, table_text}
use Rattle.rtk_chart.specs.Choice.{has_row}
use Rattle.rtk_tracking.proofs.PublicLaws.{HasCome}
use Rattle.rtk_chart.proofs.passes.has_chosen.Given as goal

abbrev pub invariant-loop-record : goal.invariant-loop-record
invariant-loop-record l = (t : WellFormedTable) → IsWellFormedTable t → l.table.text ≡ table_text t → HasCome (λ found es. list_any (has_row l.chosen) es ≡ found) l.records false t.epochs

abbrev pub decreases-loop-record : goal.decreases-loop-record
decreases-loop-record l = length l.records.text
