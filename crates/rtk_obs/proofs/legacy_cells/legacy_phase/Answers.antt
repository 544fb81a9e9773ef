use Rattle.std.proofs.Common.{arith}
use Rattle.std.proofs.lemmas.Int.{ints}
use Rattle.rtk_obs.proofs.ScalingLemmas.{legacy_phase-some}
use Rattle.rtk_obs.proofs.legacy_cells.legacy_phase.Goals as goal

pub returns-in-Some : goal.returns-in-Some
returns-in-Some c =
    legacy_phase-some c.args.band c.args.length c.in-Some.offset _ c.phase_from_length.result _ c.args.offset c.in-Some.is c.phase_from_length.ensures (omega (arith, ints)) (omega (arith, ints))
