use Rattle.std.proofs.Common.{◌≡◌, ◌-◌, ◌*◌, ◌++◌, length, drop, flat_map}
use Rattle.std.specs.Prelude.{All}
use Rattle.rtk_rinex.specs.Columns.{left}
use Rattle.rtk_rinex.specs.Record.{observations}
use Rattle.rtk_rinex.specs.Table.{IsObserved}
use Rattle.rtk_rinex.specs.Steps.CheckValues.{AreCells}
use Rattle.rtk_rinex.proofs.satellite_line_read.read_cells.Given as goal

abbrev pub invariant-loop-k : goal.invariant-loop-k
invariant-loop-k l = record {
  observed : All IsObserved l.observed.items;
  count : length l.observed.items ≡ l.k;
  text : left (48 * l.code_count) l.columns ≡ flat_map observations l.observed.items ++ left (48 * (l.code_count - l.k)) (drop (48 * l.k) l.columns);
  rest : AreCells l.code_count l.columns → AreCells (l.code_count - l.k) (drop (48 * l.k) l.columns);
}
