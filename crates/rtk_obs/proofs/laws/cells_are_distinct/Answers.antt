use Rattle.rtk_obs.proofs.DistinctLemmas.{cells_of_1004-distinct, cells_of_1074-distinct, cells_of_msm-distinct}
use Rattle.rtk_obs.proofs.MessageLemmas.{cells_of-distinct}
use Rattle.rtk_obs.proofs.laws.cells_are_distinct.Goals as goal

pub returns : goal.returns
returns c = record { each = cells_of-distinct; legacy = cells_of_1004-distinct; msm = cells_of_1074-distinct; wide = cells_of_msm-distinct }
