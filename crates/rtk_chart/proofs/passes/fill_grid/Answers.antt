use Rattle.std.proofs.Common.{[], map, refl, ◌∙◌}
use Rattle.rtk_chart.specs.Choice.{narrowed}
use Rattle.rtk_chart.specs.Steps.Standing.{StandsForGrid}
use Rattle.rtk_tracking.proofs.PublicLaws.{come-more, come-all}
use Rattle.rtk_chart.proofs.passes.fill_grid.Goals as goal

pub loop-record-init : goal.loop-record-init
loop-record-init c = record {
  bins = c.in_ok-grid.ensures.bins;
  outages = c.in_ok-grid.ensures.outages;
  gaps = c.in_ok-grid.ensures.gaps;
  grid = λ t is text. ([], t.epochs, (c.records-records.ensures.records t is text).1, refl, c.in_ok-grid.ensures.grid c.args.bands.now);
}

pub loop-record-preserved : goal.loop-record-preserved
loop-record-preserved c = record {
  bins = c.place_narrowed.ensures.bins ∙ c.loop-record.invariant.bins;
  outages = c.place_narrowed.ensures.outages ∙ c.loop-record.invariant.outages;
  gaps = c.place_narrowed.ensures.gaps ∙ c.loop-record.invariant.gaps;
  grid = λ t is text.
      come-more (λ grid es. StandsForGrid grid c.args.scale.now c.args.bands.now (map (narrowed c.args.choice.now) es)) c.loop-record.records c.next.new.self c.loop-record.grid c.place_narrowed.new.grid t.epochs c.in-Some._record.now c.next.new.epoch
      (c.loop-record.invariant.grid t is text) c.in-Some.ensures.next (λ es. c.place_narrowed.ensures.grid (map (narrowed c.args.choice.now) es));
}

pub returns-clause-grid : goal.returns-clause-grid
returns-clause-grid c = λ t is text.
    come-all (λ grid es. StandsForGrid grid c.args.scale.now c.args.bands.now (map (narrowed c.args.choice.now) es)) c.loop-record.records c.loop-record.grid t.epochs (c.loop-record.invariant.grid t is text) c.in_default.ensures.next
