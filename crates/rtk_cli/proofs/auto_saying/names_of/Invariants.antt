use Rattle.std.proofs.Common.{◌≡◌, take}
use Rattle.rtk_cli.specs.Said.{names_of}
use Rattle.rtk_cli.proofs.auto_saying.names_of.Given as goal

abbrev pub invariant-loop-capture : goal.invariant-loop-capture
invariant-loop-capture l = l.names.items ≡ names_of (take l.capture-index l.captures)
