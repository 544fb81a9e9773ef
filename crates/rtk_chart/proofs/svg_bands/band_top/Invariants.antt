use Rattle.std.proofs.Common.{◌≡◌, ◌≤◌, ◌+◌, ◌*◌}
use Rattle.std.specs.List.{range_with_len, sum_by}
use Rattle.rtk_chart.specs.SvgPicture.{height_if_drawn}
use Rattle.rtk_chart.proofs.svg_bands.band_top.Given as goal

abbrev pub invariant-loop-before : goal.invariant-loop-before
invariant-loop-before l = record {
  few : l.top ≤ 140 + 366 * l.before;
  sum : l.top ≡ 140 + sum_by (height_if_drawn l.spacing l.bins l.listed) (range_with_len 0 l.before);
}
