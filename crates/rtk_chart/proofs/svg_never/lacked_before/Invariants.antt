use Rattle.std.proofs.Common.{◌≡◌, count_by}
use Rattle.std.specs.List.{range_with_len}
use Rattle.rtk_chart.specs.SvgPicture.{is_lacked}
use Rattle.rtk_chart.proofs.svg_never.lacked_before.Given as goal

abbrev pub invariant-loop-before : goal.invariant-loop-before
invariant-loop-before l = l.count ≡ count_by (is_lacked l.bins) (range_with_len 0 l.before)
