use Rattle.std.proofs.Common.{rules}
use Rattle.rtk_obs.proofs.code.Code.name.Goals as goal

pub returns-in-G2D : goal.returns-in-G2D
returns-in-G2D c = search rules depth 5 fits 300
