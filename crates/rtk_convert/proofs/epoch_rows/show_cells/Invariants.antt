use Rattle.std.proofs.Common.{◌-◌, length, map}
use Rattle.rtk_convert.specs.Steps.ShownCells.{TakesCells}
use Rattle.rtk_convert.proofs.epoch_rows.show_cells.Given as goal

abbrev pub invariant-cells : goal.invariant-cells
invariant-cells g l = record {
  takes : TakesCells g.E.Lines.RowLines.HasRows (g.E.Lines.RowLines.HasLine l.form.doppler) l.form.epoch (map g.E.FileEntry.signal_of l.earlier) (map g.E.FileEntry.signal_of l.entries) l.begin l.end
      l.satellite l.form.codes.now (g.E.FileEntry.places l.fn.phases) l.fn.lines (g.E.FileEntry.places l.phases) l.lines;
}

abbrev pub decreases-cells : goal.decreases-cells
decreases-cells g l = length l.entries - l.end
