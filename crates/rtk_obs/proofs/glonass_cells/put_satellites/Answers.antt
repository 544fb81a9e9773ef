use Rattle.std.proofs.Common.{refl, arith, ap, length, take, false, ◌∙◌}
use Rattle.std.proofs.lemmas.Grind.{common_steps}
use Rattle.rtk_obs.proofs.GlonassLemmas.{none-yet}
use Rattle.rtk_obs.proofs.TracksLemmas.{get_or-replicate}
use Rattle.rtk_obs.proofs.glonass_cells.put_satellites.Goals as goal

pub loop-satellite-init : goal.loop-satellite-init
loop-satellite-init c = record {
  entries = c.requires.empty ∙ none-yet c.args.channels.now;
  few = omega (arith, ap length c.requires.empty);
  places = refl;
  seen = λ n is. get_or-replicate 64 n false;
}

pub loop-satellite-preserved : goal.loop-satellite-preserved
loop-satellite-preserved c =
    let stood = take c.loop-satellite.satellite-index c.args.satellites.now in
    let entries = c.put_satellite.ensures.entries stood c.loop-satellite.invariant.seen c.loop-satellite.invariant.entries in
    let seen = c.put_satellite.ensures.seen stood c.loop-satellite.invariant.seen in
    record {
      entries = grind (arith, common_steps);
      few = omega (arith, c.put_satellite.ensures.few, c.loop-satellite.invariant.few);
      places = c.put_satellite.ensures.places;
      seen = grind (arith, common_steps);
    }
