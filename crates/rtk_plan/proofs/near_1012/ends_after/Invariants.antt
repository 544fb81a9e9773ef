use Rattle.std.proofs.Common.{◌≡◌, drop}
use Rattle.rtk_plan.specs.Near1012.{ends_after}
use Rattle.rtk_plan.proofs.near_1012.ends_after.Given as goal

-- what the captures so far and those that are left have is what all have
abbrev pub invariant-loop-at : goal.invariant-loop-at
invariant-loop-at l = ends_after l.way l.ends (drop l.at l.surveys) (drop l.at l.placed) ≡ ends_after l.way l.fn.first l.surveys l.placed
