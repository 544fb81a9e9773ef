use Rattle.std.proofs.Common.{◌≡◌, map, take}
use Rattle.rtk_captures.specs.Reach.{placed_if_any}
use Rattle.rtk_captures.proofs.reach.place_captures.Given as goal

abbrev pub invariant-loop-capture : goal.invariant-loop-capture
invariant-loop-capture l = l.all.items ≡ map (placed_if_any l.base) (take l.capture-index l.captures)
