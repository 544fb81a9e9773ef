use Rattle.std.proofs.Common.{rules, arith, [], None, List, eqb, sym, ap, subst, ◌∙◌}
use Rattle.std.proofs.lemmas.Result.{IfOk-weaker, on_err_weaker}
use Rattle.rtk_message.specs.declared.any_message.AnyMessage.TheVariants as any
use Rattle.rtk_collect.specs.declared.conflicts.AnySatelliteCode.{AnySatelliteCode}
use Rattle.rtk_collect.specs.declared.outcome.Outcome.{Outcome}
use Rattle.rtk_collect.specs.Arrival.{Arrival, At}
use Rattle.rtk_collect.specs.Collector.{CollectorView}
use Rattle.rtk_collect.specs.Offered.{AnswersArrival, WouldBeTaken}
use Rattle.rtk_collect.specs.Steps.Borrowed.{borrowed}
use Rattle.rtk_collect.specs.Steps.Observed.{AddsCells, WouldTakeCells}
use Rattle.rtk_collect.specs.Steps.Slot.{window_of}
use Rattle.rtk_collect.specs.EpochSet.{AreOfOneSource}
use Rattle.rtk_collect.proofs.SignalLemmas.{entries_by-kind}
use Rattle.rtk_collect.proofs.WindowLemmas.{observed-answers, observed-taken}
use Rattle.rtk_collect.proofs.signals.Gatherer+SignalEntry.offer_signals.Goals as goal
use Rattle.rtk_collect.specs.Signals.{signals, entries_by}
use Rattle.rtk_obs.specs.declared.signal_cells.SignalEntry.{SignalEntry}

pub cells_rise-rises-requires-clause-kind : goal.cells_rise-rises-requires-clause-kind
cells_rise-rises-requires-clause-kind c = subst (AreOfOneSource signals) (sym (c.as_slice-cells.ensures.value ∙ c.put_entries.ensures.cells)) (entries_by-kind _ _ _ _)

pub cells_rise-rises-requires-clause-own : goal.cells_rise-rises-requires-clause-own
cells_rise-rises-requires-clause-own c = (c.args.sbas, c.args.doppler, c.args.channels.now, c.as_slice-cells.ensures.value ∙ c.put_entries.ensures.cells)

pub offer_cells-requires : goal.offer_cells-requires
offer_cells-requires c =
    let kind = subst (AreOfOneSource signals) (sym (c.as_slice-cells.ensures.value ∙ c.put_entries.ensures.cells)) (entries_by-kind _ _ _ _) in
    let rising = c.cells_rise-rises.ensures in
    (omega arith, (search rules, (search rules, (c.place_of_epoch-at.ensures, (c.as_slice-cells.ensures.fits, (search rules, (kind, (rising, (search rules, c.clear.ensures)))))))))

pub returns-in_default-clause-answer : goal.returns-in_default-clause-answer
returns-in_default-clause-answer c =
    let n = c.self.inside.places in
    let sets = c.self.inside.sets.items in
    let old : CollectorView SignalEntry = window_of n sets c.self.inside.stations in
    let new : CollectorView SignalEntry = window_of n sets c.offer.new.self in
    let message = c.in-Message.message.now in
    let full = ap (λ t. eqb t n) (c.len.ensures ∙ c.self.inside.sets.ok.0) in
    let here : AnswersArrival signals (entries_by c.args.sbas c.args.doppler c.args.channels.now) old (At None (any.Message message)) c.offer.result [] new = c.offer.ensures.answer (entries_by c.args.sbas c.args.doppler c.args.channels.now) n sets full in
    let is = ap (λ m. At None (borrowed m)) (sym c.in-Message.is) ∙ ap (λ e. At e (borrowed c.dated.inside.message)) (sym c.in_default.is) ∙ c.dated.view_is in
    subst (λ (w : CollectorView SignalEntry). AnswersArrival signals (entries_by c.args.sbas c.args.doppler c.args.channels.now) w c.args.dated c.offer.result c.clear.new.self new) c.self.view_is
    (subst (λ (a : Arrival). AnswersArrival signals (entries_by c.args.sbas c.args.doppler c.args.channels.now) old a c.offer.result c.clear.new.self new) is
    (subst (λ (l : List AnySatelliteCode). AnswersArrival signals (entries_by c.args.sbas c.args.doppler c.args.channels.now) old (At None (any.Message message)) c.offer.result l new) (sym c.clear.ensures) here))

pub returns-clause-answer : goal.returns-clause-answer
returns-clause-answer c =
    let n = c.self.inside.places in
    let sets = c.self.inside.sets.items in
    let old : CollectorView SignalEntry = window_of n sets c.self.inside.stations in
    let new : CollectorView SignalEntry = window_of n c.offer_cells.new.sets.items c.self.inside.stations in
    let message = borrowed c.dated.inside.message in
    let cells = c.as_slice-cells.result.now in
    IfOk-weaker c.offer_cells.result (λ (offer : Outcome SignalEntry AnySatelliteCode). AddsCells signals n c.in-Some.epoch cells sets c.offer_cells.new.sets.items offer c.offer_cells.new.found)
    (λ (offer : Outcome SignalEntry AnySatelliteCode). AnswersArrival signals (entries_by c.args.sbas c.args.doppler c.args.channels.now) c.args.self.now c.args.dated offer c.offer_cells.new.found new)
    (λ offer h. subst (λ (w : CollectorView SignalEntry). AnswersArrival signals (entries_by c.args.sbas c.args.doppler c.args.channels.now) w c.args.dated offer c.offer_cells.new.found new) c.self.view_is
    (subst (λ (a : Arrival). AnswersArrival signals (entries_by c.args.sbas c.args.doppler c.args.channels.now) old a offer c.offer_cells.new.found new) (ap (λ e. At e message) (sym c.in-Some.is) ∙ c.dated.view_is)
    (observed-answers signals (entries_by c.args.sbas c.args.doppler c.args.channels.now) old c.in-Some.epoch message cells c.offer_cells.new.sets.items offer c.offer_cells.new.found (sym (c.as_slice-cells.ensures.value ∙ c.put_entries.ensures.cells)) h)))
    c.offer_cells.ensures.added

pub returns-clause-refused : goal.returns-clause-refused
returns-clause-refused c =
    let n = c.self.inside.places in
    let sets = c.self.inside.sets.items in
    let old : CollectorView SignalEntry = window_of n sets c.self.inside.stations in
    let message = borrowed c.dated.inside.message in
    let cells = c.as_slice-cells.result.now in
    on_err_weaker c.offer_cells.result (λ (h : WouldTakeCells signals n c.in-Some.epoch cells sets).
    subst (λ (w : CollectorView SignalEntry). WouldBeTaken signals (entries_by c.args.sbas c.args.doppler c.args.channels.now) w c.args.dated) c.self.view_is
    (subst (λ (a : Arrival). WouldBeTaken signals (entries_by c.args.sbas c.args.doppler c.args.channels.now) old a) (ap (λ e. At e message) (sym c.in-Some.is) ∙ c.dated.view_is)
    (observed-taken signals (entries_by c.args.sbas c.args.doppler c.args.channels.now) old c.in-Some.epoch message cells (sym (c.as_slice-cells.ensures.value ∙ c.put_entries.ensures.cells)) h)))
    c.offer_cells.ensures.refused
