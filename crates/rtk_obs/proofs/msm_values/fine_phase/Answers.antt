use Rattle.std.proofs.Common.{arith}
use Rattle.std.proofs.lemmas.Int.{ints}
use Rattle.rtk_obs.proofs.ScalingLemmas.{fine_phase-some}
use Rattle.rtk_obs.proofs.msm_values.fine_phase.Goals as goal

pub returns-in-Some : goal.returns-in-Some
returns-in-Some c =
    fine_phase-some c.args.frequency c.args.rough c.in-Some.fine _ c.phase_from_time.result _ c.args.fine c.in-Some.is c.phase_from_time.ensures (omega (arith, ints)) (omega (arith, ints))
