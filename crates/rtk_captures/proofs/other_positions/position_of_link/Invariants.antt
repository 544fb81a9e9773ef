use Rattle.std.proofs.Common.{◌≡◌, drop}
use Rattle.rtk_captures.specs.OtherPositions.{position_of_link}
use Rattle.rtk_captures.proofs.other_positions.position_of_link.Given as goal

abbrev pub invariant-loop-place : goal.invariant-loop-place
invariant-loop-place l = position_of_link l.captures (drop l.place-index l.link) ≡ position_of_link l.captures l.link
