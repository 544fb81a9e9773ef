use Rattle.std.proofs.Common.{rules}
use Rattle.rtk_collect.proofs.window.take_last.Goals as goal

pub returns-clause-order : goal.returns-clause-order
returns-clause-order c = search rules depth 5 fits 300
