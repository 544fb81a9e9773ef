use Rattle.std.proofs.Common.{◌≡◌, drop}
use Rattle.rtk_captures.specs.Dating.{some_out_of_reach}
use Rattle.rtk_captures.proofs.dating.are_out_of_reach.Given as goal

-- no capture so far is out of reach
abbrev pub invariant-loop-at : goal.invariant-loop-at
invariant-loop-at l = some_out_of_reach l.near (drop l.at l.captures) (drop l.at l.placed) ≡ some_out_of_reach l.near l.captures l.placed
