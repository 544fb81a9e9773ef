use Rattle.std.proofs.Common.{rules}
use Rattle.rtk_obs.proofs.msm_values.rough_range.Goals as goal

pub returns-clause-value : goal.returns-clause-value
returns-clause-value c = search rules depth 5 fits 300
