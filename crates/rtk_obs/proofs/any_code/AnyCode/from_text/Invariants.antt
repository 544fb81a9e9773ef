use Rattle.std.proofs.Common.{◌≢◌, ℕ, ◌<◌, get_or}
use Rattle.rtk_obs.specs.declared.any_code.AnyCode.TheVariants.{G1C}
use Rattle.rtk_obs.specs.AnyCode.{text_of, all_any_codes}
use Rattle.rtk_obs.proofs.any_code.AnyCode.from_text.Given as goal

abbrev pub invariant-loop-code : goal.invariant-loop-code
invariant-loop-code l = (k : ℕ) → k < l.code-index → l.text ≢ text_of (get_or all_any_codes k G1C)
