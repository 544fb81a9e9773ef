use Rattle.rtk_cut.proofs.SlipLawLemmas.{records-are_asked_for}
use Rattle.rtk_cut.proofs.laws.records_are_asked_for.Goals as goal

pub returns : goal.returns
returns c = records-are_asked_for
