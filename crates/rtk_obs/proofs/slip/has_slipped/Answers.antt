use Rattle.std.proofs.Common.{rules}
use Rattle.rtk_obs.proofs.slip.has_slipped.Goals as goal

pub returns-then-eq : goal.returns-then-eq
returns-then-eq c = search rules depth 5 fits 300

pub returns-else-eq : goal.returns-else-eq
returns-else-eq c = search rules depth 5 fits 300
