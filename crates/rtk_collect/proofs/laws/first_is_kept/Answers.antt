use Rattle.rtk_collect.proofs.FirstLemmas.{first-is-kept}
use Rattle.rtk_collect.proofs.laws.first_is_kept.Goals as goal
use Rattle.rtk_collect.specs.Gps.{gps}
use Rattle.rtk_obs.specs.MessageCells.{cells_of}

pub returns : goal.returns
returns c = first-is-kept gps cells_of
