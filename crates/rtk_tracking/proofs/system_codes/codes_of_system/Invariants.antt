use Rattle.std.proofs.Common.{◌≡◌, take}
use Rattle.rtk_tracking.specs.SystemCodes.{codes_of_system}
use Rattle.rtk_tracking.proofs.system_codes.codes_of_system.Given as goal

abbrev pub invariant-loop-code : goal.invariant-loop-code
invariant-loop-code l = l.codes.items ≡ codes_of_system l.system (take l.code-index l.listed)
