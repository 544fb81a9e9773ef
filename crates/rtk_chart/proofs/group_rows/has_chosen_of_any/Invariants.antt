use Rattle.std.proofs.Common.{◌≡◌, false, length}
use Rattle.std.specs.List.{list_any}
use Rattle.rtk_rinex.specs.MixedTable.{MixedTable, IsMixedTable, mixed_table_text}
use Rattle.rtk_chart.specs.Choice.{has_row}
use Rattle.rtk_chart.proofs.GroupLemmas.{HasComeOfAny}
use Rattle.rtk_chart.proofs.group_rows.has_chosen_of_any.Given as goal

abbrev pub invariant-loop-record : goal.invariant-loop-record
invariant-loop-record l =
    (t : MixedTable) → IsMixedTable t → l.table.text ≡ mixed_table_text t → HasComeOfAny (λ found es. list_any (has_row l.chosen) es ≡ found) l.records false t.epochs

abbrev pub decreases-loop-record : goal.decreases-loop-record
decreases-loop-record l = length l.records.text
