use Rattle.std.proofs.Common.{rules}
use Rattle.rtk_obs.proofs.code.Code.place.Goals as goal

pub returns-clause-value : goal.returns-clause-value
returns-clause-value c = search rules depth 5 fits 300
