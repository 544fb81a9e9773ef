use Rattle.rtk_collect.proofs.LateLemmas.{kept-late, kept-new}
use Rattle.rtk_collect.proofs.OpeningLemmas.{held-length}
use Rattle.rtk_collect.proofs.laws.kept_epochs_of_arrivals.Goals as goal
use Rattle.rtk_collect.specs.Gps.{gps}
use Rattle.rtk_obs.specs.MessageCells.{cells_of}

pub returns-clause-late : goal.returns-clause-late
returns-clause-late c = kept-late gps cells_of

pub returns-clause-in_time : goal.returns-clause-in_time
returns-clause-in_time c = kept-new gps cells_of

pub returns-clause-held : goal.returns-clause-held
returns-clause-held c = held-length gps cells_of
