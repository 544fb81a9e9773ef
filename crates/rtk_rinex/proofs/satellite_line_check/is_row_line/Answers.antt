use Rattle.std.proofs.Common.{◌-◌, ◌<◌, length-drop, List, ℕ, length, take, drop, arith}
use Rattle.std.proofs.lemmas.List.{length-take}
use Rattle.rtk_rinex.proofs.CellLemmas.{has-form, row-of, cells-of-row, columns-cut}
use Rattle.rtk_rinex.proofs.satellite_line_check.is_row_line.Goals as goal

pub are_cells-requires-clause-few : goal.are_cells-requires-clause-few
are_cells-requires-clause-few c = (has-form c.args.code_count c.args.line.now _ c.requires.form.0 c.requires.line c.requires.form.1 (columns-cut c.args.line.now)).few

pub returns : goal.returns
returns c =
    let line = c.args.line.now in
    let columns : List ℕ = take (length line - 1 - 3) (drop 3 line) in
    let s = c.requires.form.0 in
    let f = has-form c.args.code_count line columns s c.requires.line c.requires.form.1 (columns-cut line) in
    let some : 0 < length columns = omega (arith, length-take (length line - 1 - 3) (drop 3 line), length-drop 3 line) in (
      λ e. row-of c.args.code_count line columns s f some (c.are_cells.ensures.0 e),
      λ r. c.are_cells.ensures.1 ((cells-of-row c.args.code_count line columns s f r.0 r.1 r.2).1),
    )

pub returns-then-line-le4 : goal.returns-then-line-le4
returns-then-line-le4 c =
    let line = c.args.line.now in
    let columns : List ℕ = take (length line - 1 - 3) (drop 3 line) in
    let s = c.requires.form.0 in
    let f = has-form c.args.code_count line columns s c.requires.line c.requires.form.1 (columns-cut line) in (
      λ e. cc,
      λ r. absurd (let some = (cells-of-row c.args.code_count line columns s f r.0 r.1 r.2).0 in omega (arith, some, length-take (length line - 1 - 3) (drop 3 line))),
    )
