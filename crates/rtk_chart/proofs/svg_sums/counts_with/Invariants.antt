use Rattle.std.proofs.Common.{◌≡◌, map}
use Rattle.std.specs.List.{range_with_len}
use Rattle.rtk_chart.specs.SvgSystems.{both_counts}
use Rattle.rtk_chart.proofs.svg_sums.counts_with.Given as goal

abbrev pub invariant-loop-bin : goal.invariant-loop-bin
invariant-loop-bin l = l.counts.items ≡ map (both_counts l.these l.more) (range_with_len 0 l.bin)
