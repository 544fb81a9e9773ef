use Rattle.std.proofs.Common.{◌≡◌, ◌++◌, drop}
use Rattle.rtk_plan.specs.ClockReach.{all_with_clocks}
use Rattle.rtk_plan.proofs.clock_reach.all_with_clocks.Given as goal

-- the captures so far and those that are left are all
abbrev pub invariant-loop-at : goal.invariant-loop-at
invariant-loop-at l =
    l.all.items ++ all_with_clocks l.way l.taken l.placed l.at (drop l.at l.surveys) ≡ all_with_clocks l.way l.taken l.placed 0 l.surveys
