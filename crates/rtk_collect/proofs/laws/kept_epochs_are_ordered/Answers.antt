use Rattle.rtk_collect.proofs.ArrivalsLemmas.{kept-falls}
use Rattle.rtk_collect.proofs.SetsLemmas.{kept-same, kept-rise}
use Rattle.rtk_collect.proofs.laws.kept_epochs_are_ordered.Goals as goal
use Rattle.rtk_collect.specs.Gps.{gps}
use Rattle.rtk_obs.specs.MessageCells.{cells_of}

pub returns-clause-fall : goal.returns-clause-fall
returns-clause-fall c = kept-falls gps cells_of

pub returns-clause-rise : goal.returns-clause-rise
returns-clause-rise c = kept-rise gps cells_of

pub returns-clause-same : goal.returns-clause-same
returns-clause-same c = kept-same gps
