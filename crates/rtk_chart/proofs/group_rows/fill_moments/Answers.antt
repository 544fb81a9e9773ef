use Rattle.std.proofs.Common.{[], ◌∷◌, refl, subst, ◌∙◌}
use Rattle.rtk_rinex.specs.Record.{EpochTableView}
use Rattle.rtk_chart.specs.Steps.Standing.{StandsForGrid, bare_epochs}
use Rattle.rtk_chart.proofs.GroupLemmas.{record-more, record-all}
use Rattle.rtk_chart.proofs.MixedLemmas.{bare-is}
use Rattle.rtk_chart.proofs.group_rows.fill_moments.Goals as goal

pub loop-record-init : goal.loop-record-init
loop-record-init c = record {
  gaps = c.in_ok-grid.ensures.gaps;
  outages = c.in_ok-grid.ensures.outages;
  grid = λ t is text. ([], t.epochs, (c.records-records.ensures.records t is text).1, refl, c.in_ok-grid.ensures.grid []);
}

pub loop-record-preserved : goal.loop-record-preserved
loop-record-preserved c = record {
  gaps = c.place_record.ensures.gaps ∙ c.loop-record.invariant.gaps;
  outages = c.place_record.ensures.outages ∙ c.loop-record.invariant.outages;
  grid = λ t is text.
      record-more (λ grid es. StandsForGrid grid c.args.scale.now [] (bare_epochs es)) c.loop-record.records c.next.new.self c.loop-record.grid c.place_record.new.self t.epochs c.in-Some.record
      (c.loop-record.invariant.grid t is text) c.in-Some.ensures.next
      (λ es e of good stands.
      subst (λ (x : EpochTableView). StandsForGrid c.place_record.new.self c.args.scale.now [] (x ∷ bare_epochs es))
      (bare-is c.restart.new.self e c.time.result c.restart.ensures (c.time.ensures ∙ of.time))
      (c.place_record.ensures.grid (bare_epochs es) stands));
}

pub returns-clause-grid : goal.returns-clause-grid
returns-clause-grid c = λ t is text.
    record-all (λ grid es. StandsForGrid grid c.args.scale.now [] (bare_epochs es)) c.loop-record.records c.loop-record.grid t.epochs (c.loop-record.invariant.grid t is text) c.in_default.ensures.next
