use Rattle.std.proofs.Common.{rules, ◌∙◌, Bool, List, sym, ap, subst}
use Rattle.std.proofs.lemmas.Result.{err_from_is_err_and}
use Rattle.std.specs.Prelude.{map}
use Rattle.rtk_obs.specs.declared.signal_cells.SignalEntry.{SignalEntry}
use Rattle.rtk_collect.specs.EpochSet.{EpochSetView}
use Rattle.rtk_frame.specs.Stream.{with_more, TakesPart}
use Rattle.rtk_rinex.specs.Header.{position_view}
use Rattle.rtk_convert.specs.Epochs.{EpochsView, set_of}
use Rattle.rtk_convert.specs.Conversion.{IsAhead}
use Rattle.rtk_convert.specs.Steps.ClosedText.{header_before}
use Rattle.rtk_convert.specs.Steps.Closing.{AllAbove, ClosesEpochs, ClosesEpochsInPart}
use Rattle.rtk_convert.proofs.AddLemmas.{site-position}
use Rattle.rtk_convert.proofs.AheadLemmas.{ahead-all}
use Rattle.rtk_convert.proofs.EpochsLemmas.{ends-all, ends-records, ends-header}
use Rattle.rtk_convert.proofs.HandedLemmas.{out-frame}
use Rattle.rtk_convert.proofs.epochs.Epochs.finish.Goals as goal

pub close_remaining-requires : goal.close_remaining-requires
close_remaining-requires g c =
    let f = set_of g.E.FileEntry.signal_of in
    let ahead = subst (λ (x : EpochsView). IsAhead x.collector x.closed) (sym c.self.view_is) c.requires.ahead in
    (search rules, (c.requires.shows, subst (λ (xs : List (EpochSetView SignalEntry)). AllAbove c.self.inside.closed xs) (sym (ap (map f) c.close-left.ensures.sets)) (ahead-all _ c.self.inside.closed ahead)))

pub returns-in_err-close_remaining-clause-ends : goal.returns-in_err-close_remaining-clause-ends
returns-in_err-close_remaining-clause-ends g c =
    let f = set_of g.E.FileEntry.signal_of in
    let p = err_from_is_err_and c.from_residual.result c.from_residual.ensures.1 in
    let part = subst (λ (xs : List (EpochSetView SignalEntry)). ClosesEpochsInPart c.args.setup.now (position_view c.station-position.result) c.self.inside.closed xs (g.O.Sink.taken c.args.out.now) (g.O.Sink.taken c.close_remaining.new.out)) (ap (map f) c.close-left.ensures.sets) c.in_err-close_remaining.ensures.closes.err in
    rw (p.1, p.2) (ends-records _ c.self.view_is c.requires.places (site-position _ _ c.station-position.result c.station-position.ensures.position) part (out-frame _ c.in_err-close_remaining.ensures.failed.fault))

pub returns-in_err-close_remaining-clause-failed : goal.returns-in_err-close_remaining-clause-failed
returns-in_err-close_remaining-clause-failed g c =
    let p = err_from_is_err_and c.from_residual.result c.from_residual.ensures.1 in
    rw (p.1, p.2) (record { file_failed = c.in_err-close_remaining.ensures.failed.file_failed; fault = c.in_err-close_remaining.ensures.failed.fault })

pub returns-in_err-write_header_if_none-clause-ends : goal.returns-in_err-write_header_if_none-clause-ends
returns-in_err-write_header_if_none-clause-ends g c =
    let f = set_of g.E.FileEntry.signal_of in
    let p = err_from_is_err_and c.from_residual-in_err-write_header_if_none.result c.from_residual-in_err-write_header_if_none.ensures.1 in
    let closes = subst (λ (xs : List (EpochSetView SignalEntry)). ClosesEpochs c.args.setup.now (position_view c.station-position.result) c.self.inside.closed xs c.close_remaining.new.closed_epochs (g.O.Sink.taken c.args.out.now) (g.O.Sink.taken c.close_remaining.new.out)) (ap (map f) c.close-left.ensures.sets) c.in_ok-close_remaining.ensures.closes.ok in
    let part = subst (λ (b : Bool). TakesPart (g.O.Sink.taken c.close_remaining.new.out) (g.O.Sink.taken c.write_header_if_none.new.out) (header_before c.args.setup.now (position_view c.station-position.result) c.args.setup.now.near b)) c.is_header_out.ensures c.write_header_if_none.ensures.puts.part in
    rw (p.1, p.2) (ends-header _ c.self.view_is c.requires.places (site-position _ _ c.station-position.result c.station-position.ensures.position) closes part (out-frame _ c.in_err-write_header_if_none.ensures.failed.fault))

pub returns-in_err-write_header_if_none-clause-failed : goal.returns-in_err-write_header_if_none-clause-failed
returns-in_err-write_header_if_none-clause-failed g c =
    let p = err_from_is_err_and c.from_residual-in_err-write_header_if_none.result c.from_residual-in_err-write_header_if_none.ensures.1 in
    rw (p.1, p.2) (record {
      file_failed = rw (← c.in_ok-close_remaining.ensures.failed.file_failed) c.in_err-write_header_if_none.ensures.failed.file_failed;
      fault = c.in_err-write_header_if_none.ensures.failed.fault;
    })

pub returns-clause-ends : goal.returns-clause-ends
returns-clause-ends g c =
    let f = set_of g.E.FileEntry.signal_of in
    let closes = subst (λ (xs : List (EpochSetView SignalEntry)). ClosesEpochs c.args.setup.now (position_view c.station-position.result) c.self.inside.closed xs c.close_remaining.new.closed_epochs (g.O.Sink.taken c.args.out.now) (g.O.Sink.taken c.close_remaining.new.out)) (ap (map f) c.close-left.ensures.sets) c.in_ok-close_remaining.ensures.closes.ok in
    ends-all c.self.view_is c.requires.places (site-position _ _ c.station-position.result c.station-position.ensures.position) closes
    (c.in_ok-write_header_if_none.ensures.puts.all ∙ ap (λ (b : Bool). with_more (g.O.Sink.taken c.close_remaining.new.out) (header_before c.args.setup.now (position_view c.station-position.result) c.args.setup.now.near b)) c.is_header_out.ensures)
    c.count.ensures

pub returns-clause-failed : goal.returns-clause-failed
returns-clause-failed g c = record { file_failed = c.in_ok-write_header_if_none.ensures.failed.file_failed ∙ c.in_ok-close_remaining.ensures.failed.file_failed; fault = tt }
