use Rattle.std.proofs.Common.{◌≡◌, false, take}
use Rattle.std.specs.List.{list_any}
use Rattle.rtk_captures.specs.Positions.{are_points_apart}
use Rattle.rtk_captures.proofs.positions.far_from.Given as goal

abbrev pub invariant-loop-place : goal.invariant-loop-place
invariant-loop-place l = list_any (are_points_apart l.point) (take l.place l.points) ≡ false
