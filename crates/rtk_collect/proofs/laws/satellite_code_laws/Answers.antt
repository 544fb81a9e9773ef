use Rattle.rtk_collect.proofs.EqualityLemmas.{satellite_code-same}
use Rattle.rtk_collect.proofs.laws.satellite_code_laws.Goals as goal

pub returns : goal.returns
returns c = satellite_code-same
