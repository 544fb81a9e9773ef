use Rattle.std.proofs.Common.{◌≡◌, []}
use Rattle.rtk_rinex.proofs.FieldLemmas.{none_of}
use Rattle.rtk_rinex.proofs.CellLemmas.{nothing-empty, cell-full}
use Rattle.rtk_rinex.proofs.satellite_line_check.shown_cell.Goals as goal

pub returns-then-columns-eq0 : goal.returns-then-columns-eq0
returns-then-columns-eq0 c = let none : c.args.columns.now ≡ [] = none_of c.args.columns.now c.if-columns-eq0.true in rw none nothing-empty

pub returns-then-columns-eq-CODE_COLUMNS : goal.returns-then-columns-eq-CODE_COLUMNS
returns-then-columns-eq-CODE_COLUMNS c =
    let all = cell-full c.args.columns.now c.if-columns-eq-CODE_COLUMNS.true in
    rw all c.shown_observed.ensures
