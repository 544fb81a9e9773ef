use Rattle.rtk_obs.proofs.RoundingLemmas.{rounded_law}
use Rattle.rtk_obs.proofs.laws.rounded_is_unique.Goals as goal

pub returns : goal.returns
returns c = rounded_law
