use Rattle.rtk_collect.proofs.MembersLemmas.{kept-are-taken}
use Rattle.rtk_collect.proofs.SetsLemmas.{set-decides}
use Rattle.rtk_collect.proofs.laws.set_decides.Goals as goal
use Rattle.rtk_collect.specs.Gps.{gps}
use Rattle.rtk_obs.specs.MessageCells.{cells_of}

pub returns-clause-taken : goal.returns-clause-taken
returns-clause-taken c = kept-are-taken gps cells_of

pub returns-clause-same : goal.returns-clause-same
returns-clause-same c = set-decides gps cells_of
