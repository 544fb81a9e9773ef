use Rattle.std.proofs.Common.{◌≡◌, false, take}
use Rattle.rtk_rinex.specs.Steps.Digits.{has_minus}
use Rattle.rtk_rinex.proofs.digits.contains_minus.Given as goal

abbrev pub invariant-loop-byte : goal.invariant-loop-byte
invariant-loop-byte l = has_minus (take l.byte-index l.text) ≡ false
