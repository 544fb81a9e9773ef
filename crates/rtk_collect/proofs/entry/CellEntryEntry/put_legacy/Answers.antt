use Rattle.std.proofs.Common.{inr, ◌∙◌}
use Rattle.rtk_obs.specs.LegacyCells.{cells_of_1004}
use Rattle.rtk_collect.proofs.LegacyListLemmas.{left-is}
use Rattle.rtk_collect.proofs.entry.CellEntryEntry.put_legacy.Goals as goal

pub returns : goal.returns
returns c = inr (c.put_cells_left.ensures.cells ∙ left-is c.args.known.now (cells_of_1004 c.args.satellites.now))
