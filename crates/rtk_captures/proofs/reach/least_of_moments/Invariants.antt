use Rattle.std.proofs.Common.{◌≡◌, None, drop}
use Rattle.rtk_captures.specs.Reach.{least_of_moments}
use Rattle.rtk_captures.proofs.reach.least_of_moments.Given as goal

abbrev pub invariant-loop-capture : goal.invariant-loop-capture
invariant-loop-capture l = least_of_moments l.named l.least (drop l.capture-index l.captures) ≡ least_of_moments l.named None l.captures
