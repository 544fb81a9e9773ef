use Rattle.std.proofs.Common.{◌≡◌, ◌==◌, take, false}
use Rattle.std.specs.List.{list_any}
use Rattle.rtk_obs.specs.SatelliteIndex.{letter_of}
use Rattle.rtk_rinex.specs.MixedHead.{letter}
use Rattle.rtk_plan.proofs.dating_systems.lists_code.Given as goal

abbrev pub invariant-loop-code : goal.invariant-loop-code
invariant-loop-code l = list_any (λ c. letter c == letter_of l.system) (take l.code-index l.listed) ≡ false
