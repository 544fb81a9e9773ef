use Rattle.std.proofs.Common.{◌≡◌, ◌≤◌, ◌*◌}
use Rattle.std.specs.List.{range_with_len, sum_by}
use Rattle.rtk_chart.specs.SvgPicture.{codes_before}
use Rattle.rtk_chart.proofs.spacing.lines_before.Given as goal

abbrev pub invariant-loop-before : goal.invariant-loop-before
invariant-loop-before l = record {
  few : l.lines ≤ 16 * l.before;
  sum : l.lines ≡ sum_by (λ before. codes_before l.bins before l.listed) (range_with_len 0 l.before);
}
