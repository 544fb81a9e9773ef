use Rattle.std.proofs.Common.{rules}
use Rattle.rtk_obs.proofs.code.Band.frequency.Goals as goal

pub returns-in-L5 : goal.returns-in-L5
returns-in-L5 c = search rules depth 5 fits 300
