use Rattle.rtk_collect.proofs.JoinsLemmas.{closed-rest}
use Rattle.rtk_collect.proofs.OpeningLemmas.{closed-length}
use Rattle.rtk_collect.proofs.laws.closed_epochs_are_the_rest.Goals as goal
use Rattle.rtk_collect.specs.Gps.{gps}
use Rattle.rtk_obs.specs.MessageCells.{cells_of}

pub returns-clause-rest : goal.returns-clause-rest
returns-clause-rest c = closed-rest gps cells_of

pub returns-clause-count : goal.returns-clause-count
returns-clause-count c = closed-length gps cells_of
