use Rattle.std.proofs.Common.{◌≡◌, take}
use Rattle.rtk_captures.specs.Positions.{points_in}
use Rattle.rtk_captures.proofs.positions.points_in.Given as goal

abbrev pub invariant-loop-capture : goal.invariant-loop-capture
invariant-loop-capture l = l.points.items ≡ points_in (take l.capture-index l.captures)
