use Rattle.std.proofs.Common.{◌≡◌, [], ◌∷◌, refl, subst, ◌∙◌}
use Rattle.rtk_rinex.specs.Record.{EpochTableView}
use Rattle.rtk_chart.specs.Groups.{group_epochs}
use Rattle.rtk_chart.specs.Means.{columns_of}
use Rattle.rtk_chart.specs.Steps.Standing.{StandsForGrid}
use Rattle.rtk_chart.proofs.GroupLemmas.{record-more, record-all}
use Rattle.rtk_chart.proofs.group_rows.fill_group.Goals as goal

pub loop-record-init : goal.loop-record-init
loop-record-init c = record {
  bins = c.in_ok-grid.ensures.bins;
  outages = c.in_ok-grid.ensures.outages;
  grid = λ t is text. ([], t.epochs, (c.records-records.ensures.records t is text).1, refl, c.in_ok-grid.ensures.grid c.args.lower.now);
  columns = λ fresh t is text. ([], t.epochs, (c.records-records.ensures.records t is text).1, refl, fresh);
}

pub loop-record-preserved : goal.loop-record-preserved
loop-record-preserved c = record {
  bins = c.place_record.ensures.bins ∙ c.loop-record.invariant.bins;
  outages = c.place_record.ensures.outages ∙ c.loop-record.invariant.outages;
  grid = λ t is text.
      record-more (λ grid es. StandsForGrid grid c.args.drawing.now.scale c.args.lower.now (group_epochs c.args.drawing.now.choice.now c.args.group es)) c.loop-record.records c.next.new.self c.loop-record.grid c.place_record.new.self t.epochs c.in-Some.record
      (c.loop-record.invariant.grid t is text) c.in-Some.ensures.next
      (λ es e of good stands.
      subst (λ (x : EpochTableView). StandsForGrid c.place_record.new.self c.args.drawing.now.scale c.args.lower.now (x ∷ group_epochs c.args.drawing.now.choice.now c.args.group es))
      (c.read_group.ensures e of good.rise)
      (c.place_record.ensures.grid (group_epochs c.args.drawing.now.choice.now c.args.group es) stands));
  columns = λ fresh t is text.
      record-more (λ columns es. columns.items ≡ columns_of c.args.drawing.now.scale c.args.upper.now (group_epochs c.args.drawing.now.choice.now c.args.group es)) c.loop-record.records c.next.new.self c.loop-record.columns c.note_strengths.new.columns t.epochs c.in-Some.record
      (c.loop-record.invariant.columns fresh t is text) c.in-Some.ensures.next
      (λ es e of good are.
      subst (λ (x : EpochTableView). c.note_strengths.new.columns.items ≡ columns_of c.args.drawing.now.scale c.args.upper.now (x ∷ group_epochs c.args.drawing.now.choice.now c.args.group es))
      (c.read_group.ensures e of good.rise)
      (c.note_strengths.ensures (group_epochs c.args.drawing.now.choice.now c.args.group es) are));
}

pub returns-clause-grid : goal.returns-clause-grid
returns-clause-grid c = λ t is text.
    record-all (λ grid es. StandsForGrid grid c.args.drawing.now.scale c.args.lower.now (group_epochs c.args.drawing.now.choice.now c.args.group es)) c.loop-record.records c.loop-record.grid t.epochs (c.loop-record.invariant.grid t is text) c.in_default.ensures.next

pub returns-clause-columns : goal.returns-clause-columns
returns-clause-columns c = λ fresh t is text.
    record-all (λ columns es. columns.items ≡ columns_of c.args.drawing.now.scale c.args.upper.now (group_epochs c.args.drawing.now.choice.now c.args.group es)) c.loop-record.records c.loop-record.columns t.epochs (c.loop-record.invariant.columns fresh t is text) c.in_default.ensures.next
