use Rattle.rtk_collect.proofs.ArrivalsLemmas.{with_arrival-new, with_arrival-below, with_arrival-same}
use Rattle.rtk_collect.proofs.laws.cells_join_epochs.Goals as goal
use Rattle.rtk_collect.specs.Gps.{gps}

pub returns-clause-greater : goal.returns-clause-greater
returns-clause-greater c = with_arrival-new gps

pub returns-clause-same : goal.returns-clause-same
returns-clause-same c = with_arrival-same gps

pub returns-clause-lesser : goal.returns-clause-lesser
returns-clause-lesser c = with_arrival-below gps
