use Rattle.rtk_obs.proofs.EqualityLemmas.{position_same}
use Rattle.rtk_obs.proofs.laws.position_laws.Goals as goal

pub returns : goal.returns
returns c = position_same
