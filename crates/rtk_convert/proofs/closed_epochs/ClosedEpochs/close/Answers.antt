use Rattle.std.proofs.Common.{rules, ℕ, Bool, true, List, refl, sym, ap, subst, ◌∙◌}
use Rattle.std.proofs.lemmas.Result.{err_from_is_err_and}
use Rattle.rtk_frame.specs.Stream.{with_more, TakesPart}
use Rattle.rtk_obs.specs.declared.any_code.AnyCode.{AnyCode}
use Rattle.rtk_obs.specs.declared.signal_cells.SignalEntry.{SignalEntry}
use Rattle.rtk_collect.specs.EpochSet.{EpochSetView}
use Rattle.rtk_rinex.specs.Header.{position_view}
use Rattle.rtk_rinex.specs.MixedHead.{MixedHeadView}
use Rattle.rtk_rinex.specs.MixedRecord.{mixed_record_text}
use Rattle.rtk_convert.specs.Epochs.{set_of}
use Rattle.rtk_convert.specs.File.{record_of}
use Rattle.rtk_convert.specs.LastPhases.{HasLastPhases}
use Rattle.rtk_convert.specs.Rows.{table_of}
use Rattle.rtk_convert.specs.Steps.ClosedText.{is_any}
use Rattle.rtk_convert.specs.Steps.ShownCells.{AllBelow}
use Rattle.rtk_convert.specs.ClosedEpochs.{ClosedEpochsView, HasClosed}
use Rattle.rtk_convert.proofs.RecordsLemmas.{closing-is, follows-no, follows-yes}
use Rattle.rtk_convert.proofs.WritingLemmas.{takes-none}
use Rattle.rtk_convert.proofs.closed_epochs.ClosedEpochs.close.Goals as goal

pub push_rows-requires : goal.push_rows-requires
push_rows-requires g c =
    let epoch = c.args.set.now.epoch in
    let above = subst (λ (x : ClosedEpochsView). AllBelow x.tracks epoch) (sym c.self.view_is) c.requires.above in
    let below = subst (λ (p : _). AllBelow (g.E.FileEntry.places p) epoch) (sym c.deref_mut.ensures.value) above in
    (search rules, (c.codes-listed.ensures.good, (subst g.E.Lines.RowLines.CanShow (sym c.has_doppler-doppler.ensures) c.requires.shows, below)))

pub returns-then-not-has_record-clause-closes : goal.returns-then-not-has_record-clause-closes
returns-then-not-has_record-clause-closes g c = record {
  follows = λ below f.
      let e : EpochSetView SignalEntry = set_of g.E.FileEntry.signal_of c.args.set.now in
      let listed = c.codes-listed.ensures.value ∙ ap (λ (h : MixedHeadView). h.listed) c.head.ensures.value in
      let old : ClosedEpochsView = record { tracks = g.E.FileEntry.places c.self.inside.phases.value; is_header_out = c.self.inside.is_header_out; count = c.self.inside.count } in
      let before = subst (λ (x : ClosedEpochsView). HasClosed x c.args.setup.now.head.doppler c.args.setup.now.head.listed below) (sym c.self.view_is) f in
      let inside = subst (λ (l : List AnyCode). HasClosed old c.args.setup.now.head.doppler l below) (sym listed) before in
      let phases = subst (λ (p : _). HasLastPhases (g.E.FileEntry.places p) below) (sym c.deref_mut.ensures.value) inside.phases in
      let rows = (table_of c.codes-listed.result.now e below).rows in
      let shown = c.text-text.ensures ∙ c.finish.ensures.text c.has_doppler-doppler.result rows (c.in_ok-push_rows.ensures.lines below phases) ∙ ap (λ (t : ℕ). mixed_record_text c.has_doppler-doppler.result (record { time = t; rows = rows })) c.epoch-epoch.ensures
      ∙ ap (λ (d : Bool). mixed_record_text d (record { time = e.epoch; rows = rows })) c.has_doppler-doppler.ensures in
      let text = c.in_ok-has_record.ensures.any ∙ ap is_any shown ∙ ap (λ (l : List AnyCode). is_any (record_of c.args.setup.now.head.doppler l e below)) listed in
      follows-no old (record { tracks = g.E.FileEntry.places c.push_rows.new.phases; is_header_out = c.self.inside.is_header_out; count = c.self.inside.count }) c.args.setup.now.head.doppler c.args.setup.now.head.listed e below
      (c.in_ok-push_rows.ensures.phases below phases) refl refl (sym text ∙ c.if-not-has_record.true) before;
  puts = λ below f.
      let e : EpochSetView SignalEntry = set_of g.E.FileEntry.signal_of c.args.set.now in
      let listed = c.codes-listed.ensures.value ∙ ap (λ (h : MixedHeadView). h.listed) c.head.ensures.value in
      let old : ClosedEpochsView = record { tracks = g.E.FileEntry.places c.self.inside.phases.value; is_header_out = c.self.inside.is_header_out; count = c.self.inside.count } in
      let before = subst (λ (x : ClosedEpochsView). HasClosed x c.args.setup.now.head.doppler c.args.setup.now.head.listed below) (sym c.self.view_is) f in
      let inside = subst (λ (l : List AnyCode). HasClosed old c.args.setup.now.head.doppler l below) (sym listed) before in
      let phases = subst (λ (p : _). HasLastPhases (g.E.FileEntry.places p) below) (sym c.deref_mut.ensures.value) inside.phases in
      let rows = (table_of c.codes-listed.result.now e below).rows in
      let shown = c.text-text.ensures ∙ c.finish.ensures.text c.has_doppler-doppler.result rows (c.in_ok-push_rows.ensures.lines below phases) ∙ ap (λ (t : ℕ). mixed_record_text c.has_doppler-doppler.result (record { time = t; rows = rows })) c.epoch-epoch.ensures
      ∙ ap (λ (d : Bool). mixed_record_text d (record { time = e.epoch; rows = rows })) c.has_doppler-doppler.ensures in
      let text = shown ∙ ap (λ (l : List AnyCode). record_of c.args.setup.now.head.doppler l e below) listed in
      let same = closing-is c.args.setup.now (position_view c.args.position.now) e below c.epoch-epoch.result c.self.inside.is_header_out c.text-text.result.now c.epoch-epoch.ensures before.is_header_out text in
      record {
        all = c.in_ok-has_record.ensures.puts.all ∙ ap (with_more (g.O.Sink.taken c.args.out.now)) same;
        part = subst (λ (t : List ℕ). TakesPart (g.O.Sink.taken c.args.out.now) (g.O.Sink.taken c.write_record.new.out) t) same c.in_ok-has_record.ensures.puts.part;
      };
  later = c.in_ok-push_rows.ensures.later;
}

pub returns-clause-closes : goal.returns-clause-closes
returns-clause-closes g c = record {
  follows = λ below f.
      let e : EpochSetView SignalEntry = set_of g.E.FileEntry.signal_of c.args.set.now in
      let listed = c.codes-listed.ensures.value ∙ ap (λ (h : MixedHeadView). h.listed) c.head.ensures.value in
      let old : ClosedEpochsView = record { tracks = g.E.FileEntry.places c.self.inside.phases.value; is_header_out = c.self.inside.is_header_out; count = c.self.inside.count } in
      let before = subst (λ (x : ClosedEpochsView). HasClosed x c.args.setup.now.head.doppler c.args.setup.now.head.listed below) (sym c.self.view_is) f in
      let inside = subst (λ (l : List AnyCode). HasClosed old c.args.setup.now.head.doppler l below) (sym listed) before in
      let phases = subst (λ (p : _). HasLastPhases (g.E.FileEntry.places p) below) (sym c.deref_mut.ensures.value) inside.phases in
      let rows = (table_of c.codes-listed.result.now e below).rows in
      let shown = c.text-text.ensures ∙ c.finish.ensures.text c.has_doppler-doppler.result rows (c.in_ok-push_rows.ensures.lines below phases) ∙ ap (λ (t : ℕ). mixed_record_text c.has_doppler-doppler.result (record { time = t; rows = rows })) c.epoch-epoch.ensures
      ∙ ap (λ (d : Bool). mixed_record_text d (record { time = e.epoch; rows = rows })) c.has_doppler-doppler.ensures in
      let text = c.in_ok-has_record.ensures.any ∙ ap is_any shown ∙ ap (λ (l : List AnyCode). is_any (record_of c.args.setup.now.head.doppler l e below)) listed in
      follows-yes old (record { tracks = g.E.FileEntry.places c.push_rows.new.phases; is_header_out = true; count = c.saturating_add-self-inside.result }) c.args.setup.now.head.doppler c.args.setup.now.head.listed e below
      (c.in_ok-push_rows.ensures.phases below phases) refl c.saturating_add-self-inside.ensures (sym text ∙ c.if-not-has_record.false) before;
  puts = λ below f.
      let e : EpochSetView SignalEntry = set_of g.E.FileEntry.signal_of c.args.set.now in
      let listed = c.codes-listed.ensures.value ∙ ap (λ (h : MixedHeadView). h.listed) c.head.ensures.value in
      let old : ClosedEpochsView = record { tracks = g.E.FileEntry.places c.self.inside.phases.value; is_header_out = c.self.inside.is_header_out; count = c.self.inside.count } in
      let before = subst (λ (x : ClosedEpochsView). HasClosed x c.args.setup.now.head.doppler c.args.setup.now.head.listed below) (sym c.self.view_is) f in
      let inside = subst (λ (l : List AnyCode). HasClosed old c.args.setup.now.head.doppler l below) (sym listed) before in
      let phases = subst (λ (p : _). HasLastPhases (g.E.FileEntry.places p) below) (sym c.deref_mut.ensures.value) inside.phases in
      let rows = (table_of c.codes-listed.result.now e below).rows in
      let shown = c.text-text.ensures ∙ c.finish.ensures.text c.has_doppler-doppler.result rows (c.in_ok-push_rows.ensures.lines below phases) ∙ ap (λ (t : ℕ). mixed_record_text c.has_doppler-doppler.result (record { time = t; rows = rows })) c.epoch-epoch.ensures
      ∙ ap (λ (d : Bool). mixed_record_text d (record { time = e.epoch; rows = rows })) c.has_doppler-doppler.ensures in
      let text = shown ∙ ap (λ (l : List AnyCode). record_of c.args.setup.now.head.doppler l e below) listed in
      let same = closing-is c.args.setup.now (position_view c.args.position.now) e below c.epoch-epoch.result c.self.inside.is_header_out c.text-text.result.now c.epoch-epoch.ensures before.is_header_out text in
      record {
        all = c.in_ok-has_record.ensures.puts.all ∙ ap (with_more (g.O.Sink.taken c.args.out.now)) same;
        part = subst (λ (t : List ℕ). TakesPart (g.O.Sink.taken c.args.out.now) (g.O.Sink.taken c.write_record.new.out) t) same c.in_ok-has_record.ensures.puts.part;
      };
  later = c.in_ok-push_rows.ensures.later;
}

pub returns-in_err-push_rows-clause-closes : goal.returns-in_err-push_rows-clause-closes
returns-in_err-push_rows-clause-closes g c =
    let p = err_from_is_err_and c.from_residual.result c.from_residual.ensures.1 in
    rw (p.1, p.2) (record { follows = tt; puts = λ below f. record { all = tt; part = takes-none _ _ }; later = tt })
