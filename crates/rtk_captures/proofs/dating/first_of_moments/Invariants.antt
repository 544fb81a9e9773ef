use Rattle.std.proofs.Common.{◌≡◌, drop}
use Rattle.rtk_captures.specs.Sources.{first_of_moments}
use Rattle.rtk_captures.proofs.dating.first_of_moments.Given as goal

abbrev pub invariant-loop-capture : goal.invariant-loop-capture
invariant-loop-capture l = first_of_moments l.named l.found l.least (drop l.capture-index l.captures) ≡ first_of_moments l.named l.fn.first l.least l.captures
