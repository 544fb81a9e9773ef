use Rattle.std.proofs.Common.{◌≡◌, ◌==◌, take, false}
use Rattle.std.specs.List.{list_any}
use Rattle.rtk_rinex.specs.MixedHead.{letter}
use Rattle.rtk_plan.proofs.setup_seconds.has_glonass.Given as goal

abbrev pub invariant-loop-code : goal.invariant-loop-code
invariant-loop-code l = list_any (λ c. letter c == 82) (take l.code-index l.listed) ≡ false
