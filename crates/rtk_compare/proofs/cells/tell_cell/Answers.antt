use Rattle.rtk_compare.specs.Steps.Tracks.{pair}
use Rattle.rtk_compare.proofs.CellLemmas.{told-some, told-none}
use Rattle.rtk_compare.proofs.cells.tell_cell.Goals as goal

pub returns-in-Some : goal.returns-in-Some
returns-in-Some c = λ earlier track are. told-some c.args.shifts c.args.place.now _ earlier (pair c.args.old.now c.args.new.now) c.in-Some.is (c.put_cell.ensures earlier track are)

pub returns-in_default : goal.returns-in_default
returns-in_default c = λ earlier track are. told-none c.args.findings.now c.args.shifts c.args.place.now earlier (pair c.args.old.now c.args.new.now) c.in_default.is
