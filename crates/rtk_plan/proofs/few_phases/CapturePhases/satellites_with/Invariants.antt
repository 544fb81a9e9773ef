use Rattle.std.proofs.Common.{◌≡◌, ◌<◌, ℕ, Bool, length, get_or}
use Rattle.rtk_plan.specs.FewPhases.{code_count}
use Rattle.rtk_plan.proofs.few_phases.CapturePhases.satellites_with.Given as goal

abbrev pub invariant-loop-bit : goal.invariant-loop-bit
invariant-loop-bit l = record {
  size : length l.marks ≡ 64;
  told : (n : ℕ) (none : Bool) → n < l.bit → get_or l.marks n none ≡ (code_count l.self.surveys.now l.self.station l.self.from n l.code).has_value;
}
