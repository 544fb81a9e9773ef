use Rattle.rtk_collect.proofs.FewLemmas.{kept-are-few, kept-are-greatest}
use Rattle.rtk_collect.proofs.laws.epochs_are_bounded.Goals as goal
use Rattle.rtk_collect.specs.Gps.{gps}
use Rattle.rtk_obs.specs.MessageCells.{cells_of}

pub returns-clause-greatest : goal.returns-clause-greatest
returns-clause-greatest c = kept-are-greatest gps cells_of

pub returns-clause-cells : goal.returns-clause-cells
returns-clause-cells c = kept-are-few
