use Rattle.rtk_cut.proofs.SlipLawLemmas.{slips-are_kept}
use Rattle.rtk_cut.proofs.laws.slips_are_kept.Goals as goal

pub returns : goal.returns
returns c = slips-are_kept
