use Rattle.std.proofs.Common.{rules}
use Rattle.rtk_collect.proofs.conflicts.Conflicts.push.Goals as goal

pub returns : goal.returns
returns g c = search rules depth 5 fits 300
