use Rattle.std.proofs.Common.{refl, arith, ap, length, take, false, ◌∙◌}
use Rattle.std.proofs.lemmas.Grind.{common_steps}
use Rattle.rtk_obs.proofs.SbasLemmas.{none-yet}
use Rattle.rtk_obs.proofs.TracksLemmas.{get_or-replicate}
use Rattle.rtk_obs.proofs.sbas_cells.put_all.Goals as goal

pub loop-satellite-init : goal.loop-satellite-init
loop-satellite-init c = record {
  entries = c.requires.empty ∙ none-yet;
  few = omega (arith, ap length c.requires.empty);
  places = refl;
  seen = λ n is. get_or-replicate 64 n false;
}

pub loop-satellite-preserved : goal.loop-satellite-preserved
loop-satellite-preserved c =
    let stood = take c.loop-satellite.satellite-index c.args.satellites.now in
    let entries = c.put_first.ensures.entries stood c.loop-satellite.invariant.seen c.loop-satellite.invariant.entries in
    let seen = c.put_first.ensures.seen stood c.loop-satellite.invariant.seen in
    record {
      entries = grind (arith, common_steps);
      few = omega (arith, c.put_first.ensures.few, c.loop-satellite.invariant.few);
      places = c.put_first.ensures.places;
      seen = grind (arith, common_steps);
    }
