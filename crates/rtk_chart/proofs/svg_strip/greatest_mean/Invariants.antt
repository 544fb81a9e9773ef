use Rattle.std.proofs.Common.{◌≡◌, None, take}
use Rattle.std.specs.List.{fold}
use Rattle.rtk_tracking.specs.Extremes.{greater}
use Rattle.rtk_chart.specs.Means.{mean_at}
use Rattle.rtk_chart.proofs.svg_strip.greatest_mean.Given as goal

abbrev pub invariant-loop-column : goal.invariant-loop-column
invariant-loop-column l = l.greatest ≡ fold (λ greatest column. greater greatest (mean_at l.band column)) None (take l.column-index l.columns)
