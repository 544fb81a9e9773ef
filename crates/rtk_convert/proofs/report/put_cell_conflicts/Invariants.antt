use Rattle.std.proofs.Common.{◌≡◌, ◌++◌, map, take}
use Rattle.std.specs.Prelude.{flat_map}
use Rattle.rtk_convert.specs.ReportText.{cell_conflict_line}
use Rattle.rtk_convert.proofs.report.put_cell_conflicts.Given as goal

abbrev pub invariant-loop-cell : goal.invariant-loop-cell
invariant-loop-cell g l =
    l.lines.items ≡ l.fn.lines.items ++ flat_map (λ c. cell_conflict_line l.link l.number l.epoch c.satellite c.code) (map g.E.FileEntry.name_of (take l.cell-index l.cells))
