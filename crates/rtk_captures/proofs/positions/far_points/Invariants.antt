use Rattle.std.proofs.Common.{◌≡◌, false, take}
use Rattle.rtk_captures.specs.Positions.{some_apart}
use Rattle.rtk_captures.proofs.positions.far_points.Given as goal

abbrev pub invariant-loop-place : goal.invariant-loop-place
invariant-loop-place l = some_apart (take l.place l.points) l.points ≡ false
