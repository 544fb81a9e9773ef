use Rattle.rtk_collect.proofs.PreferredLemmas.{first-is-preferred}
use Rattle.rtk_collect.proofs.laws.first_is_preferred.Goals as goal
use Rattle.rtk_collect.specs.Gps.{gps}

pub returns : goal.returns
returns c = first-is-preferred gps
