use Rattle.rtk_cut.proofs.SlipLawLemmas.{slips-are_found}
use Rattle.rtk_cut.proofs.laws.slips_are_found.Goals as goal

pub returns : goal.returns
returns c = slips-are_found
