use Rattle.std.proofs.Common.{◌≡◌, drop}
use Rattle.rtk_survey.specs.Chains.{first_ranked}
use Rattle.rtk_survey.proofs.clock_chains.first_ranked.Given as goal

abbrev pub invariant-loop-clock : goal.invariant-loop-clock
invariant-loop-clock l = first_ranked l.rank (drop l.clock-index l.clocks) ≡ first_ranked l.rank l.clocks
