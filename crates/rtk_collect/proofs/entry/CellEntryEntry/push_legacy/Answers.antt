use Rattle.std.proofs.Common.{[], List, ◌++◌, ap, ◌∙◌}
use Rattle.rtk_obs.specs.declared.cell.CellEntry.{CellEntry}
use Rattle.rtk_obs.specs.LegacyCells.{cells_of_1004}
use Rattle.rtk_collect.specs.Gps.{gps}
use Rattle.rtk_collect.proofs.LegacyListLemmas.{left-is, all_left}
use Rattle.rtk_collect.proofs.entry.CellEntryEntry.push_legacy.Goals as goal

pub returns : goal.returns
returns c =
    c.in-Ok.ensures.items ∙ ap (λ (xs : List CellEntry). xs ++ c.as_slice.result.now) c.requires.empty
    ∙ c.as_slice.ensures.value ∙ c.put_cells_left.ensures.cells ∙ left-is [] (cells_of_1004 c.args.satellites.now) ∙ all_left gps (cells_of_1004 c.args.satellites.now)
