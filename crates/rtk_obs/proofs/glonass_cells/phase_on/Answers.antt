use Rattle.std.proofs.Common.{arith}
use Rattle.std.proofs.lemmas.Int.{ints}
use Rattle.rtk_obs.proofs.ScalingLemmas.{glonass_phase-some}
use Rattle.rtk_obs.proofs.glonass_cells.phase_on.Goals as goal

pub returns-in-Some : goal.returns-in-Some
returns-in-Some c =
    glonass_phase-some c.args.frequency c.args.length c.in-Some.offset _ c.phase_from_length_on.result _ c.args.offset c.in-Some.is c.phase_from_length_on.ensures (omega (arith, ints)) (omega (arith, ints))
