use Rattle.std.proofs.Common.{refl, sym, ◌∙◌, arith, take, false}
use Rattle.std.proofs.lemmas.Grind.{common_steps}
use Rattle.std.proofs.lemmas.Bool.{ltb-true, true≢false}
use Rattle.rtk_obs.specs.LegacyCells.{first_entries}
use Rattle.rtk_obs.proofs.DistinctLemmas.{rise-more, cells_of_1004-rise}
use Rattle.rtk_obs.proofs.TracksLemmas.{get_or-replicate}
use Rattle.rtk_obs.proofs.legacy_cells.put_satellites.Goals as goal
use Rattle.rtk_obs.proofs.legacy_cells.put_satellites.Goals.{then-rises, else-rises}

pub loop-satellite-init : goal.loop-satellite-init
unfolding first_entries
loop-satellite-init c = record { entries = refl; room = c.make_room.ensures; few = omega arith; places = refl; seen = λ n is. get_or-replicate 33 n false; rises = λ t. (tt, tt) }

pub loop-satellite-preserved : goal.loop-satellite-preserved
loop-satellite-preserved c =
    let stood = take c.loop-satellite.satellite-index c.args.satellites.now in
    let entries = c.put_satellite-count.ensures.entries stood c.loop-satellite.invariant.seen c.loop-satellite.invariant.entries in
    let seen = c.put_satellite-count.ensures.seen stood c.loop-satellite.invariant.seen in
    record {
      entries = grind (arith, common_steps);
      room = omega (arith, c.put_satellite-count.ensures.room, c.loop-satellite.invariant.room);
      few = omega (arith, c.put_satellite-count.ensures.few, c.loop-satellite.invariant.few);
      places = c.put_satellite-count.ensures.places;
      seen = grind (arith, common_steps);
      rises = elim c.if-rises.branch [
        | then-rises w ↦ λ t. rise-more c.loop-satellite.last c.loop-satellite.satellite-index _ c.args.satellites.now c.loop-satellite-test.true (c.loop-satellite.invariant.rises w.if-rises.true) (ltb-true _ _ (sym w.rises-is ∙ t))
        | else-rises w ↦ λ t. absurd (true≢false (sym t ∙ w.rises-is ∙ w.if-rises.false))
      ];
    }

pub returns-clause-rises : goal.returns-clause-rises
returns-clause-rises c = λ t. cells_of_1004-rise c.loop-satellite.last c.loop-satellite.satellite-index c.args.satellites.now (c.loop-satellite.invariant.rises t) (omega (arith, c.loop-satellite-test.false))
