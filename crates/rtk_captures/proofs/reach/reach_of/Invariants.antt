use Rattle.std.proofs.Common.{◌≡◌, None, drop}
use Rattle.rtk_captures.specs.Reach.{reach_after}
use Rattle.rtk_captures.proofs.reach.reach_of.Given as goal

abbrev pub invariant-loop-capture : goal.invariant-loop-capture
invariant-loop-capture l = reach_after l.reach (drop l.capture-index l.placed) ≡ reach_after None l.placed
