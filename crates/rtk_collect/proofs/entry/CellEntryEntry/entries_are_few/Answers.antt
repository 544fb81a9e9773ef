use Rattle.rtk_collect.proofs.CellsLemmas.{cells-few}
use Rattle.rtk_collect.proofs.entry.CellEntryEntry.entries_are_few.Goals as goal

pub returns : goal.returns
returns c = cells-few
