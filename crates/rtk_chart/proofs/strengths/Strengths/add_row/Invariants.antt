use Rattle.std.proofs.Common.{◌≡◌, drop}
use Rattle.rtk_chart.specs.Steps.Added.{with_row}
use Rattle.rtk_chart.proofs.strengths.Strengths.add_row.Given as goal

abbrev pub invariant-loop-place : goal.invariant-loop-place
invariant-loop-place l = with_row l.bands l.observed l.fn.self ≡ with_row (drop l.place l.bands) (drop l.place l.observed) l.self
