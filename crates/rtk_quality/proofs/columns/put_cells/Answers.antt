use Rattle.std.proofs.Common.{◌≤◌, length, ap, ◌∙◌, arith, ◌++◌}
use Rattle.std.specs.Prelude.{flat_map}
use Rattle.std.proofs.lemmas.List.{take_all}
use Rattle.rtk_quality.specs.Columns.{cell_text, cells_text}
use Rattle.rtk_quality.proofs.ListLemmas.{line-more}
use Rattle.rtk_quality.proofs.columns.put_cells.Goals as goal

pub loop-cell-preserved : goal.loop-cell-preserved
loop-cell-preserved c =
    line-more cell_text c.args.cells.now c.loop-cell.cell-index _ c.args.text.now.items c.loop-cell.text.items c.put_cell.new.text.items
    c.loop-cell-test.true c.loop-cell.invariant c.in_ok-put_cell.ensures

pub returns : goal.returns
unfolding cells_text
returns c =
    let end : length c.args.cells.now ≤ c.loop-cell.cell-index = omega (arith, c.loop-cell-test.false) in
    c.loop-cell.invariant ∙ ap (λ xs. c.args.text.now.items ++ flat_map cell_text xs) (take_all c.loop-cell.cell-index c.args.cells.now end)
