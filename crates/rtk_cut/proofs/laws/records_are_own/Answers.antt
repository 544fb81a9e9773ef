use Rattle.rtk_cut.proofs.LawLemmas.{records-are_own}
use Rattle.rtk_cut.proofs.laws.records_are_own.Goals as goal

pub returns : goal.returns
returns c = records-are_own
