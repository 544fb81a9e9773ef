use Rattle.rtk_collect.proofs.LateLemmas.{late-change-nothing}
use Rattle.rtk_collect.proofs.laws.late_arrivals_change_nothing.Goals as goal
use Rattle.rtk_collect.specs.Gps.{gps}
use Rattle.rtk_obs.specs.MessageCells.{cells_of}

pub returns : goal.returns
returns c = late-change-nothing gps cells_of
