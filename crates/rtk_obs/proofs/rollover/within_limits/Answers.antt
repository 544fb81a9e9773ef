use Rattle.std.proofs.Common.{rules}
use Rattle.rtk_obs.proofs.rollover.within_limits.Goals as goal

pub returns : goal.returns
returns c = search rules depth 5 fits 300
