use Rattle.std.proofs.Common.{rules}
use Rattle.rtk_collect.proofs.window.close_least.Goals as goal

pub returns-then-len-places-clause-items : goal.returns-then-len-places-clause-items
returns-then-len-places-clause-items c = search rules depth 5 fits 300
