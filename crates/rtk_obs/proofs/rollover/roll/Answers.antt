use Rattle.std.proofs.Common.{rules}
use Rattle.rtk_obs.proofs.rollover.roll.Goals as goal

pub returns-else-turned-clause-value : goal.returns-else-turned-clause-value
returns-else-turned-clause-value c = search rules depth 5 fits 300
