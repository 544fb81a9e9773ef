use Rattle.std.proofs.Common.{◌≡◌, ◌≤◌, ◌*◌, take, sum_by, count_ones}
use Rattle.rtk_message.proofs.column.count_cells.Given as goal

abbrev pub invariant-loop-row : goal.invariant-loop-row
invariant-loop-row l = record {
  sum : l.sum ≡ sum_by count_ones (take l.row-index l.mask);
  small : l.sum ≤ 32 * l.row-index;
}
