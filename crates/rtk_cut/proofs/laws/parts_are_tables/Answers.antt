use Rattle.rtk_cut.proofs.LawLemmas.{parts-are_tables}
use Rattle.rtk_cut.proofs.laws.parts_are_tables.Goals as goal

pub returns : goal.returns
returns c = parts-are_tables
