use Rattle.std.proofs.Common.{◌≡◌, None, drop}
use Rattle.rtk_captures.specs.Sources.{first_message}
use Rattle.rtk_captures.proofs.dating.first_message.Given as goal

abbrev pub invariant-loop-capture : goal.invariant-loop-capture
invariant-loop-capture l = first_message l.found l.least (drop l.capture-index l.captures) ≡ first_message None l.least l.captures
