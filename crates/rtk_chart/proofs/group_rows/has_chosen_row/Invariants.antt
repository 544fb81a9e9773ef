use Rattle.rtk_chart.proofs.GroupLemmas.{HasFoundNone}
use Rattle.rtk_chart.proofs.group_rows.has_chosen_row.Given as goal

abbrev pub invariant-loop-satellite : goal.invariant-loop-satellite
invariant-loop-satellite l = HasFoundNone l.chosen l.read l.rows

abbrev pub decreases-loop-satellite : goal.decreases-loop-satellite
decreases-loop-satellite l = l.rows.count
