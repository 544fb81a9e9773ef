use Rattle.rtk_cut.proofs.SlipLawLemmas.{others-stay}
use Rattle.rtk_cut.proofs.laws.others_stay.Goals as goal

pub returns : goal.returns
returns c = others-stay
