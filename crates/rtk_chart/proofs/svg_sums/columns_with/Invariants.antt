use Rattle.std.proofs.Common.{◌≡◌, map}
use Rattle.std.specs.List.{range_with_len}
use Rattle.rtk_chart.specs.SvgSystems.{both_columns}
use Rattle.rtk_chart.proofs.svg_sums.columns_with.Given as goal

abbrev pub invariant-loop-column : goal.invariant-loop-column
invariant-loop-column l = l.columns.items ≡ map (both_columns l.these l.more) (range_with_len 0 l.column)
