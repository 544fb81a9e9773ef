use Rattle.std.proofs.Common.{◌≡◌, drop}
use Rattle.rtk_chart.specs.Steps.Added.{with_rows}
use Rattle.rtk_chart.proofs.strengths.Strengths.add_rows.Given as goal

abbrev pub invariant-loop-row : goal.invariant-loop-row
invariant-loop-row l = with_rows l.bands l.rows l.fn.self ≡ with_rows l.bands (drop l.row-index l.rows) l.self
