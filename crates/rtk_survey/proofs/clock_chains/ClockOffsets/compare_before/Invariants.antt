use Rattle.std.proofs.Common.{◌≡◌, drop}
use Rattle.rtk_survey.specs.Chains.{with_others}
use Rattle.rtk_survey.proofs.clock_chains.ClockOffsets.compare_before.Given as goal

abbrev pub invariant-loop-at : goal.invariant-loop-at
invariant-loop-at l = with_others l.rank l.base (drop l.at l.clocks) l.self ≡ with_others l.rank l.base l.clocks l.fn.self
