use Rattle.std.proofs.Common.{◌≡◌}
use Rattle.rtk_chart.proofs.GroupLemmas.{HasReadGroup}
use Rattle.rtk_chart.proofs.group_rows.read_group.Given as goal

abbrev pub invariant-loop-satellite : goal.invariant-loop-satellite
invariant-loop-satellite l = record {
  time : l.own.time ≡ l.read.time;
  group : HasReadGroup l.choice l.group l.read l.rows l.own.rows l.last;
}

abbrev pub decreases-loop-satellite : goal.decreases-loop-satellite
decreases-loop-satellite l = l.rows.count
