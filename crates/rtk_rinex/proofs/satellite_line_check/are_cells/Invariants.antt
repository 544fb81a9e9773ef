use Rattle.std.proofs.Common.{◌-◌, ◌*◌, drop}
use Rattle.rtk_rinex.specs.Steps.CheckValues.{AreCells}
use Rattle.rtk_rinex.proofs.satellite_line_check.are_cells.Given as goal

abbrev pub invariant-loop-k : goal.invariant-loop-k
invariant-loop-k l = record {
  rest : AreCells l.code_count l.columns → AreCells (l.code_count - l.k) (drop (48 * l.k) l.columns);
  whole : AreCells (l.code_count - l.k) (drop (48 * l.k) l.columns) → AreCells l.code_count l.columns;
}
