use Rattle.rtk_collect.proofs.LateLemmas.{closed-only-grow, closed-fall, closed-after}
use Rattle.rtk_collect.proofs.laws.closed_epochs_only_grow.Goals as goal
use Rattle.rtk_collect.specs.Gps.{gps}
use Rattle.rtk_obs.specs.MessageCells.{cells_of}

pub returns-clause-grow : goal.returns-clause-grow
returns-clause-grow c = closed-only-grow gps cells_of

pub returns-clause-fall : goal.returns-clause-fall
returns-clause-fall c = closed-fall gps cells_of

pub returns-clause-after : goal.returns-clause-after
returns-clause-after c = closed-after gps cells_of
