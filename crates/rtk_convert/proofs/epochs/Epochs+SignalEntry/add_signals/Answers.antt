use Rattle.std.proofs.Common.{◌≡◌, ◌∙◌, ℕ, Bool, List, ◌∷◌, Option, map, refl, sym, ap, subst, arith}
use Rattle.std.proofs.lemmas.List.{length-map}
use Rattle.std.proofs.lemmas.Result.{err_from_is_err_and}
use Rattle.rtk_obs.specs.declared.signal_cells.SignalEntry.{SignalEntry}
use Rattle.rtk_collect.specs.Collector.{CollectorView, RepresentsArrivals}
use Rattle.rtk_collect.specs.Signals.{signals, entries_by}
use Rattle.rtk_message.specs.declared.system.System.TheVariants.{Sbas}
use Rattle.rtk_setup.specs.Setup.{lists_system}
use Rattle.rtk_collect.specs.declared.outcome.Outcome.{Outcome}
use Rattle.rtk_collect.specs.declared.conflicts.AnySatelliteCode.{AnySatelliteCode}
use Rattle.rtk_message.specs.AnyDecoded.{number_of}
use Rattle.rtk_collect.specs.Answer.{Class, IsRightAnswer}
use Rattle.rtk_collect.specs.Arrival.{epoch_of, message_of}
use Rattle.rtk_convert.specs.Conversion.{IsAhead}
use Rattle.rtk_convert.specs.Epochs.{outcome_of, set_of, window_of}
use Rattle.rtk_convert.specs.Report.{class_lines}
use Rattle.rtk_convert.specs.Steps.OfferLines.{class_named, offer_lines}
use Rattle.rtk_convert.specs.Steps.OfferedMessage.{AnswersMessage}
use Rattle.rtk_convert.proofs.AheadLemmas.{closes-above}
use Rattle.rtk_convert.proofs.EpochsLemmas.{adds-message, adds-in-part, adds-none, ahead-written, hands-on, hands-back, signal-answers}
use Rattle.rtk_convert.proofs.OutcomeLemmas.{failed-err}
use Rattle.rtk_convert.proofs.WindowLemmas.{below-map, least-map, never-map, map-id, outcome-id, window-id}
use Rattle.rtk_convert.proofs.epochs.Epochs+SignalEntry.add_signals.Goals as goal

abbrev same : SignalEntry → SignalEntry
same e = e

abbrev name_same : AnySatelliteCode → AnySatelliteCode
name_same s = s

pub write_answer-requires : goal.write_answer-requires
write_answer-requires g c =
    let ahead = subst (λ (x : _). IsAhead x.collector x.closed) (sym c.self.view_is) c.requires.ahead in
    (omega arith, (omega arith, (tt, closes-above (window_of same c.self.inside.collector) c.self.inside.closed (outcome_of same c.in_ok-offer.offer) (least-map same c.self.inside.collector.places c.self.inside.collector.sets c.in_ok-offer.offer c.in_ok-offer.ensures.least_closes) ahead)))

pub returns-clause-adds : goal.returns-clause-adds
returns-clause-adds g c =
    let meets : AnswersMessage c.args.setup.now (window_of same c.self.inside.collector) c.args.dated (outcome_of same c.in_ok-offer.offer) (map name_same c.offer_signals.new.conflicts) (window_of same c.offer_signals.new.self) =
    signal-answers c.args.setup.now (entries_by c.takes_sbas-sbas.result c.has_doppler-doppler.result c.channels-channels.result.now) (window_of same c.self.inside.collector) (window_of same c.offer_signals.new.self) c.args.dated (outcome_of same c.in_ok-offer.offer) (map name_same c.offer_signals.new.conflicts) (ap (λ (b : Bool). entries_by b c.has_doppler-doppler.result c.channels-channels.result.now) c.takes_sbas-sbas.ensures
    ∙ ap (λ (d : Bool). entries_by (lists_system c.args.setup.now.head.listed Sbas) d c.channels-channels.result.now) c.has_doppler-doppler.ensures ∙ c.channels-channels.ensures.cells)
    (λ before rep.
    let m = c.in_ok-offer.ensures.answer before (subst (λ (w : CollectorView SignalEntry). RepresentsArrivals signals (entries_by c.takes_sbas-sbas.result c.has_doppler-doppler.result c.channels-channels.result.now) w before) (window-id c.self.inside.collector) rep) in (
      subst (λ (o : Outcome SignalEntry AnySatelliteCode). IsRightAnswer signals (entries_by c.takes_sbas-sbas.result c.has_doppler-doppler.result c.channels-channels.result.now) c.self.inside.collector.places c.args.dated before o (map name_same c.offer_signals.new.conflicts)) (sym (outcome-id c.in_ok-offer.offer))
          (subst (λ (xs : List AnySatelliteCode). IsRightAnswer signals (entries_by c.takes_sbas-sbas.result c.has_doppler-doppler.result c.channels-channels.result.now) c.self.inside.collector.places c.args.dated before c.in_ok-offer.offer xs) (sym (map-id name_same (λ x. refl) c.offer_signals.new.conflicts)) m.0),
      subst (λ (w : CollectorView SignalEntry). RepresentsArrivals signals (entries_by c.takes_sbas-sbas.result c.has_doppler-doppler.result c.channels-channels.result.now) w (c.args.dated ∷ before)) (sym (window-id c.offer_signals.new.self)) m.1,
    )) in
    let text : c.deref.result.now ≡ offer_lines c.args.link (number_of (message_of c.args.dated)) (epoch_of c.args.dated) (outcome_of same c.in_ok-offer.offer) (map name_same c.offer_signals.new.conflicts) =
    c.deref.ensures.value ∙ c.in_ok-lines.ensures
    ∙ ap (λ (n : ℕ). class_lines c.args.link n c.epoch-epoch.result (class_named c.class_of-class.result) (map name_same c.as_slice-conflicts.result.now)) c.number-number.ensures
    ∙ ap (λ (e : Option ℕ). class_lines c.args.link (number_of (message_of c.args.dated)) e (class_named c.class_of-class.result) (map name_same c.as_slice-conflicts.result.now)) c.epoch-epoch.ensures.value
    ∙ ap (λ (k : Class). class_lines c.args.link (number_of (message_of c.args.dated)) (epoch_of c.args.dated) k (map name_same c.as_slice-conflicts.result.now)) c.class_of-class.ensures
    ∙ ap (λ (xs : List AnySatelliteCode). offer_lines c.args.link (number_of (message_of c.args.dated)) (epoch_of c.args.dated) (outcome_of same c.in_ok-offer.offer) (map name_same xs)) c.as_slice-conflicts.ensures.value in
    adds-message (outcome_of same c.in_ok-offer.offer) (map name_same c.offer_signals.new.conflicts) c.self.view_is c.requires.taken c.requires.places c.offer_signals.ensures.places meets text refl c.write_answer.ensures.window c.class_of-class.ensures c.in_ok-write_answer.ensures.writes

pub returns-clause-stays : goal.returns-clause-stays
returns-clause-stays g c =
    let meets : AnswersMessage c.args.setup.now (window_of same c.self.inside.collector) c.args.dated (outcome_of same c.in_ok-offer.offer) (map name_same c.offer_signals.new.conflicts) (window_of same c.offer_signals.new.self) =
    signal-answers c.args.setup.now (entries_by c.takes_sbas-sbas.result c.has_doppler-doppler.result c.channels-channels.result.now) (window_of same c.self.inside.collector) (window_of same c.offer_signals.new.self) c.args.dated (outcome_of same c.in_ok-offer.offer) (map name_same c.offer_signals.new.conflicts) (ap (λ (b : Bool). entries_by b c.has_doppler-doppler.result c.channels-channels.result.now) c.takes_sbas-sbas.ensures
    ∙ ap (λ (d : Bool). entries_by (lists_system c.args.setup.now.head.listed Sbas) d c.channels-channels.result.now) c.has_doppler-doppler.ensures ∙ c.channels-channels.ensures.cells)
    (λ before rep.
    let m = c.in_ok-offer.ensures.answer before (subst (λ (w : CollectorView SignalEntry). RepresentsArrivals signals (entries_by c.takes_sbas-sbas.result c.has_doppler-doppler.result c.channels-channels.result.now) w before) (window-id c.self.inside.collector) rep) in (
      subst (λ (o : Outcome SignalEntry AnySatelliteCode). IsRightAnswer signals (entries_by c.takes_sbas-sbas.result c.has_doppler-doppler.result c.channels-channels.result.now) c.self.inside.collector.places c.args.dated before o (map name_same c.offer_signals.new.conflicts)) (sym (outcome-id c.in_ok-offer.offer))
          (subst (λ (xs : List AnySatelliteCode). IsRightAnswer signals (entries_by c.takes_sbas-sbas.result c.has_doppler-doppler.result c.channels-channels.result.now) c.self.inside.collector.places c.args.dated before c.in_ok-offer.offer xs) (sym (map-id name_same (λ x. refl) c.offer_signals.new.conflicts)) m.0),
      subst (λ (w : CollectorView SignalEntry). RepresentsArrivals signals (entries_by c.takes_sbas-sbas.result c.has_doppler-doppler.result c.channels-channels.result.now) w (c.args.dated ∷ before)) (sym (window-id c.offer_signals.new.self)) m.1,
    )) in
    let ahead = ahead-written _ (outcome_of same c.in_ok-offer.offer) c.self.view_is refl c.write_answer.ensures.window (least-map same c.self.inside.collector.places c.self.inside.collector.sets c.in_ok-offer.offer c.in_ok-offer.ensures.least_closes) (below-map same c.in_ok-offer.offer c.offer_signals.new.self.sets c.in_ok-offer.ensures.closed) (never-map same c.self.inside.collector c.offer_signals.new.self c.offer_signals.ensures.least) c.requires.ahead c.in_ok-write_answer.ensures.writes in
    hands-on _ (outcome_of same c.in_ok-offer.offer) (map name_same c.offer_signals.new.conflicts) c.self.view_is c.requires.taken c.offer_signals.ensures.places (omega (arith, c.offer_signals.ensures.bound, length-map c.offer_signals.new.self.sets (set_of same))) meets c.write_answer.ensures.window ahead

pub returns-clause-failed : goal.returns-clause-failed
returns-clause-failed g c =
    record { file_failed = c.in_ok-write_answer.ensures.failed.file_failed; report_failed = c.in_ok-write_answer.ensures.failed.report_failed }

pub returns-in_err-write_answer-clause-adds : goal.returns-in_err-write_answer-clause-adds
returns-in_err-write_answer-clause-adds g c =
    let p = err_from_is_err_and c.from_residual-in_err-write_answer.result c.from_residual-in_err-write_answer.ensures.1 in
    let meets : AnswersMessage c.args.setup.now (window_of same c.self.inside.collector) c.args.dated (outcome_of same c.in_ok-offer.offer) (map name_same c.offer_signals.new.conflicts) (window_of same c.offer_signals.new.self) =
    signal-answers c.args.setup.now (entries_by c.takes_sbas-sbas.result c.has_doppler-doppler.result c.channels-channels.result.now) (window_of same c.self.inside.collector) (window_of same c.offer_signals.new.self) c.args.dated (outcome_of same c.in_ok-offer.offer) (map name_same c.offer_signals.new.conflicts) (ap (λ (b : Bool). entries_by b c.has_doppler-doppler.result c.channels-channels.result.now) c.takes_sbas-sbas.ensures
    ∙ ap (λ (d : Bool). entries_by (lists_system c.args.setup.now.head.listed Sbas) d c.channels-channels.result.now) c.has_doppler-doppler.ensures ∙ c.channels-channels.ensures.cells)
    (λ before rep.
    let m = c.in_ok-offer.ensures.answer before (subst (λ (w : CollectorView SignalEntry). RepresentsArrivals signals (entries_by c.takes_sbas-sbas.result c.has_doppler-doppler.result c.channels-channels.result.now) w before) (window-id c.self.inside.collector) rep) in (
      subst (λ (o : Outcome SignalEntry AnySatelliteCode). IsRightAnswer signals (entries_by c.takes_sbas-sbas.result c.has_doppler-doppler.result c.channels-channels.result.now) c.self.inside.collector.places c.args.dated before o (map name_same c.offer_signals.new.conflicts)) (sym (outcome-id c.in_ok-offer.offer))
          (subst (λ (xs : List AnySatelliteCode). IsRightAnswer signals (entries_by c.takes_sbas-sbas.result c.has_doppler-doppler.result c.channels-channels.result.now) c.self.inside.collector.places c.args.dated before c.in_ok-offer.offer xs) (sym (map-id name_same (λ x. refl) c.offer_signals.new.conflicts)) m.0),
      subst (λ (w : CollectorView SignalEntry). RepresentsArrivals signals (entries_by c.takes_sbas-sbas.result c.has_doppler-doppler.result c.channels-channels.result.now) w (c.args.dated ∷ before)) (sym (window-id c.offer_signals.new.self)) m.1,
    )) in
    let text : c.deref.result.now ≡ offer_lines c.args.link (number_of (message_of c.args.dated)) (epoch_of c.args.dated) (outcome_of same c.in_ok-offer.offer) (map name_same c.offer_signals.new.conflicts) =
    c.deref.ensures.value ∙ c.in_ok-lines.ensures
    ∙ ap (λ (n : ℕ). class_lines c.args.link n c.epoch-epoch.result (class_named c.class_of-class.result) (map name_same c.as_slice-conflicts.result.now)) c.number-number.ensures
    ∙ ap (λ (e : Option ℕ). class_lines c.args.link (number_of (message_of c.args.dated)) e (class_named c.class_of-class.result) (map name_same c.as_slice-conflicts.result.now)) c.epoch-epoch.ensures.value
    ∙ ap (λ (k : Class). class_lines c.args.link (number_of (message_of c.args.dated)) (epoch_of c.args.dated) k (map name_same c.as_slice-conflicts.result.now)) c.class_of-class.ensures
    ∙ ap (λ (xs : List AnySatelliteCode). offer_lines c.args.link (number_of (message_of c.args.dated)) (epoch_of c.args.dated) (outcome_of same c.in_ok-offer.offer) (map name_same xs)) c.as_slice-conflicts.ensures.value in
    rw (p.1, p.2) (adds-in-part (outcome_of same c.in_ok-offer.offer) (map name_same c.offer_signals.new.conflicts) c.self.view_is c.requires.taken c.requires.places c.offer_signals.ensures.places meets text refl c.in_err-write_answer.ensures.writes)

pub returns-in_err-write_answer-clause-stays : goal.returns-in_err-write_answer-clause-stays
returns-in_err-write_answer-clause-stays g c =
    let p = err_from_is_err_and c.from_residual-in_err-write_answer.result c.from_residual-in_err-write_answer.ensures.1 in
    let meets : AnswersMessage c.args.setup.now (window_of same c.self.inside.collector) c.args.dated (outcome_of same c.in_ok-offer.offer) (map name_same c.offer_signals.new.conflicts) (window_of same c.offer_signals.new.self) =
    signal-answers c.args.setup.now (entries_by c.takes_sbas-sbas.result c.has_doppler-doppler.result c.channels-channels.result.now) (window_of same c.self.inside.collector) (window_of same c.offer_signals.new.self) c.args.dated (outcome_of same c.in_ok-offer.offer) (map name_same c.offer_signals.new.conflicts) (ap (λ (b : Bool). entries_by b c.has_doppler-doppler.result c.channels-channels.result.now) c.takes_sbas-sbas.ensures
    ∙ ap (λ (d : Bool). entries_by (lists_system c.args.setup.now.head.listed Sbas) d c.channels-channels.result.now) c.has_doppler-doppler.ensures ∙ c.channels-channels.ensures.cells)
    (λ before rep.
    let m = c.in_ok-offer.ensures.answer before (subst (λ (w : CollectorView SignalEntry). RepresentsArrivals signals (entries_by c.takes_sbas-sbas.result c.has_doppler-doppler.result c.channels-channels.result.now) w before) (window-id c.self.inside.collector) rep) in (
      subst (λ (o : Outcome SignalEntry AnySatelliteCode). IsRightAnswer signals (entries_by c.takes_sbas-sbas.result c.has_doppler-doppler.result c.channels-channels.result.now) c.self.inside.collector.places c.args.dated before o (map name_same c.offer_signals.new.conflicts)) (sym (outcome-id c.in_ok-offer.offer))
          (subst (λ (xs : List AnySatelliteCode). IsRightAnswer signals (entries_by c.takes_sbas-sbas.result c.has_doppler-doppler.result c.channels-channels.result.now) c.self.inside.collector.places c.args.dated before c.in_ok-offer.offer xs) (sym (map-id name_same (λ x. refl) c.offer_signals.new.conflicts)) m.0),
      subst (λ (w : CollectorView SignalEntry). RepresentsArrivals signals (entries_by c.takes_sbas-sbas.result c.has_doppler-doppler.result c.channels-channels.result.now) w (c.args.dated ∷ before)) (sym (window-id c.offer_signals.new.self)) m.1,
    )) in
    rw (p.1, p.2) (hands-on _ (outcome_of same c.in_ok-offer.offer) (map name_same c.offer_signals.new.conflicts) c.self.view_is c.requires.taken c.offer_signals.ensures.places (omega (arith, c.offer_signals.ensures.bound, length-map c.offer_signals.new.self.sets (set_of same))) meets c.write_answer.ensures.window tt)

pub returns-in_err-write_answer-clause-failed : goal.returns-in_err-write_answer-clause-failed
returns-in_err-write_answer-clause-failed g c =
    let p = err_from_is_err_and c.from_residual-in_err-write_answer.result c.from_residual-in_err-write_answer.ensures.1 in
    rw (p.1, p.2) (failed-err c.in_err-write_answer.ensures.failed)

pub returns-in_err-lines-clause-adds : goal.returns-in_err-lines-clause-adds
returns-in_err-lines-clause-adds g c =
    let p = err_from_is_err_and c.from_residual-in_err-lines.result c.from_residual-in_err-lines.ensures.1 in
    rw (p.1, p.2) adds-none

pub returns-in_err-lines-clause-stays : goal.returns-in_err-lines-clause-stays
returns-in_err-lines-clause-stays g c =
    let p = err_from_is_err_and c.from_residual-in_err-lines.result c.from_residual-in_err-lines.ensures.1 in
    let meets : AnswersMessage c.args.setup.now (window_of same c.self.inside.collector) c.args.dated (outcome_of same c.in_ok-offer.offer) (map name_same c.offer_signals.new.conflicts) (window_of same c.offer_signals.new.self) =
    signal-answers c.args.setup.now (entries_by c.takes_sbas-sbas.result c.has_doppler-doppler.result c.channels-channels.result.now) (window_of same c.self.inside.collector) (window_of same c.offer_signals.new.self) c.args.dated (outcome_of same c.in_ok-offer.offer) (map name_same c.offer_signals.new.conflicts) (ap (λ (b : Bool). entries_by b c.has_doppler-doppler.result c.channels-channels.result.now) c.takes_sbas-sbas.ensures
    ∙ ap (λ (d : Bool). entries_by (lists_system c.args.setup.now.head.listed Sbas) d c.channels-channels.result.now) c.has_doppler-doppler.ensures ∙ c.channels-channels.ensures.cells)
    (λ before rep.
    let m = c.in_ok-offer.ensures.answer before (subst (λ (w : CollectorView SignalEntry). RepresentsArrivals signals (entries_by c.takes_sbas-sbas.result c.has_doppler-doppler.result c.channels-channels.result.now) w before) (window-id c.self.inside.collector) rep) in (
      subst (λ (o : Outcome SignalEntry AnySatelliteCode). IsRightAnswer signals (entries_by c.takes_sbas-sbas.result c.has_doppler-doppler.result c.channels-channels.result.now) c.self.inside.collector.places c.args.dated before o (map name_same c.offer_signals.new.conflicts)) (sym (outcome-id c.in_ok-offer.offer))
          (subst (λ (xs : List AnySatelliteCode). IsRightAnswer signals (entries_by c.takes_sbas-sbas.result c.has_doppler-doppler.result c.channels-channels.result.now) c.self.inside.collector.places c.args.dated before c.in_ok-offer.offer xs) (sym (map-id name_same (λ x. refl) c.offer_signals.new.conflicts)) m.0),
      subst (λ (w : CollectorView SignalEntry). RepresentsArrivals signals (entries_by c.takes_sbas-sbas.result c.has_doppler-doppler.result c.channels-channels.result.now) w (c.args.dated ∷ before)) (sym (window-id c.offer_signals.new.self)) m.1,
    )) in
    rw (p.1, p.2) (hands-on _ (outcome_of same c.in_ok-offer.offer) (map name_same c.offer_signals.new.conflicts) c.self.view_is c.requires.taken c.offer_signals.ensures.places (omega (arith, c.offer_signals.ensures.bound, length-map c.offer_signals.new.self.sets (set_of same))) meets refl tt)

pub returns-in_err-lines-clause-failed : goal.returns-in_err-lines-clause-failed
returns-in_err-lines-clause-failed g c =
    let p = err_from_is_err_and c.from_residual-in_err-lines.result c.from_residual-in_err-lines.ensures.1 in
    rw (p.1, p.2) (record { file_failed = refl; report_failed = refl })

pub returns-in_err-offer-clause-adds : goal.returns-in_err-offer-clause-adds
returns-in_err-offer-clause-adds g c =
    let p = err_from_is_err_and c.from_residual.result c.from_residual.ensures.1 in
    rw (p.1, p.2) adds-none

pub returns-in_err-offer-clause-stays : goal.returns-in_err-offer-clause-stays
returns-in_err-offer-clause-stays g c =
    let p = err_from_is_err_and c.from_residual.result c.from_residual.ensures.1 in
    rw (p.1, p.2) (hands-back _ c.self.view_is c.offer_signals.ensures.places (omega (arith, c.offer_signals.ensures.bound, length-map c.offer_signals.new.self.sets (set_of same))) (ap (window_of same) c.in_err-offer.ensures.err) refl)

pub returns-in_err-offer-clause-failed : goal.returns-in_err-offer-clause-failed
returns-in_err-offer-clause-failed g c =
    let p = err_from_is_err_and c.from_residual.result c.from_residual.ensures.1 in
    rw (p.1, p.2) (record { file_failed = refl; report_failed = refl })
