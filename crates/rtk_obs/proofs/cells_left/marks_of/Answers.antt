use Rattle.std.proofs.Common.{false, refl, length-set, ◌∙◌}
use Rattle.rtk_obs.specs.Tracks.{place_of_signal}
use Rattle.rtk_obs.proofs.TracksLemmas.{get_or-replicate}
use Rattle.rtk_obs.proofs.CellsLeftLemmas.{marks-next}
use Rattle.rtk_obs.proofs.cells_left.marks_of.Goals as goal

pub loop-entry-init : goal.loop-entry-init
loop-entry-init c = record { places = refl; marks = λ n code is. get_or-replicate 512 (place_of_signal n code) false }

pub loop-entry-preserved : goal.loop-entry-preserved
loop-entry-preserved c = record {
  places = length-set _ _ _ ∙ c.loop-entry.invariant.places;
  marks = marks-next c.loop-entry.marks c.args.cells.now c.loop-entry.entry-index c.place_of_signal.result _ c.place_of_signal.ensures.value
      c.loop-entry.invariant.places c.loop-entry-test.true c.requires c.loop-entry.invariant.marks;
}
