use Rattle.std.proofs.Common.{◌≡◌, map, take}
use Rattle.rtk_obs.specs.AnyCode.{code_of_gps}
use Rattle.rtk_quality.proofs.document.codes_of_gps.Given as goal

abbrev pub invariant-loop-code : goal.invariant-loop-code
invariant-loop-code l = l.codes.items ≡ map code_of_gps (take l.code-index l.listed)
