use Rattle.std.proofs.Common.{◌≡◌, ◌==◌, take, false}
use Rattle.std.specs.List.{list_any}
use Rattle.rtk_obs.specs.AnyCode.{number_of}
use Rattle.rtk_compare.proofs.headers.is_listed.Given as goal

abbrev pub invariant-loop-other : goal.invariant-loop-other
invariant-loop-other l = list_any (λ d. number_of l.code == number_of d) (take l.other-index l.listed) ≡ false
