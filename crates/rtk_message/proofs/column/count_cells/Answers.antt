use Rattle.std.proofs.Common.{◌≤◌, ◌<◌, length, take, count_ones, get_or, ap, arith, rules}
use Rattle.std.proofs.lemmas.List.{take_more}
use Rattle.std.proofs.lemmas.List.Sums.{sum_by_push}
use Rattle.std.proofs.lemmas.Nat.{ones-le}
use Rattle.rtk_message.proofs.column.count_cells.Goals as goal

pub loop-row-preserved : goal.loop-row-preserved
loop-row-preserved c =
    let k = c.loop-row.row-index in
    let xs = c.args.mask.now in
    let lt : k < length xs = omega (arith, c.loop-row-test.true, ap length c.as_slice-row-items.ensures.value) in
    let one : count_ones (get_or xs k 0) ≤ 32 = ones-le 32 (get_or xs k 0) (rw (← c.as_slice-row-items.ensures.value) (search rules)) in
    rw (c.as_slice-row-items.ensures.value, take_more xs k 0 lt, sum_by_push count_ones (take k xs) (get_or xs k 0))
    (record { sum = omega (arith, c.loop-row.invariant.sum); small = omega (arith, c.loop-row.invariant.small, one) })
