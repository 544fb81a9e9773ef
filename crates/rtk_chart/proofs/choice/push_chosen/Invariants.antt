use Rattle.std.proofs.Common.{◌≡◌, take}
use Rattle.std.specs.List.{filter}
use Rattle.rtk_chart.specs.Choice.{is_chosen}
use Rattle.rtk_chart.proofs.choice.push_chosen.Given as goal

abbrev pub invariant-loop-row : goal.invariant-loop-row
invariant-loop-row l = record {
  time : l.narrow.time ≡ l.fn.narrow.time;
  rows : l.narrow.rows ≡ filter (λ r. is_chosen l.chosen r.satellite) (take l.row-index l.rows);
}
