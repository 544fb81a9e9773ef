use Rattle.std.proofs.Common.{◌≡◌, drop}
use Rattle.rtk_survey.specs.Chains.{with_compared}
use Rattle.rtk_survey.proofs.clock_chains.ClockOffsets.compare_all.Given as goal

abbrev pub invariant-loop-clock : goal.invariant-loop-clock
invariant-loop-clock l = with_compared l.base (drop l.clock-index l.clocks) l.self ≡ with_compared l.base l.clocks l.fn.self
