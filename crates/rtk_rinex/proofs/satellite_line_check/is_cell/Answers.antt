use Rattle.rtk_rinex.specs.Columns.{left}
use Rattle.rtk_rinex.proofs.CellLemmas.{decides-some}
use Rattle.rtk_rinex.proofs.satellite_line_check.is_cell.Goals as goal

pub returns : goal.returns
returns c = rw c.is_some.ensures (decides-some c.shown_cell.result (left 48 c.args.columns.now) c.shown_cell.ensures)
