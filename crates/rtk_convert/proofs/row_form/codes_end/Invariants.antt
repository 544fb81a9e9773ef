use Rattle.std.proofs.Common.{◌≡◌, ◌<◌, ◌≤◌, ℕ, get_or}
use Rattle.rtk_obs.specs.declared.any_code.AnyCode.{AnyCode}
use Rattle.rtk_obs.specs.AnyCode.{system_of}
use Rattle.rtk_convert.proofs.row_form.codes_end.Given as goal

abbrev pub invariant-loop-end : goal.invariant-loop-end
invariant-loop-end l = (k : ℕ) (d : AnyCode) → l.begin ≤ k → k < l.end → system_of (get_or l.listed k d) ≡ l.system
