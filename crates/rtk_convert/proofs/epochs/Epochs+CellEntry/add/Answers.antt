use Rattle.std.proofs.Common.{◌≡◌, ◌∙◌, ℕ, List, Option, map, refl, sym, ap, subst, arith}
use Rattle.std.proofs.lemmas.List.{length-map}
use Rattle.std.proofs.lemmas.Result.{err_from_is_err_and}
use Rattle.rtk_obs.specs.SignalCells.{signal_of}
use Rattle.rtk_collect.specs.declared.conflicts.SatelliteCode.{SatelliteCode}
use Rattle.rtk_message.specs.AnyDecoded.{number_of}
use Rattle.rtk_collect.specs.Answer.{Class}
use Rattle.rtk_collect.specs.Arrival.{epoch_of, message_of}
use Rattle.rtk_convert.specs.Conversion.{IsAhead}
use Rattle.rtk_convert.specs.Epochs.{outcome_of, set_of, window_of}
use Rattle.rtk_convert.specs.Report.{class_lines}
use Rattle.rtk_convert.specs.Steps.OfferLines.{class_named, offer_lines}
use Rattle.rtk_convert.specs.Steps.OfferedMessage.{AnswersMessage, name_of_gps}
use Rattle.rtk_convert.proofs.AheadLemmas.{closes-above}
use Rattle.rtk_convert.proofs.EpochsLemmas.{adds-message, adds-in-part, adds-none, ahead-written, hands-on, hands-back}
use Rattle.rtk_convert.proofs.GpsOfferLemmas.{gps-answers, shows-none}
use Rattle.rtk_convert.proofs.OutcomeLemmas.{failed-err}
use Rattle.rtk_convert.proofs.WindowLemmas.{below-map, least-map, never-map}
use Rattle.rtk_convert.proofs.epochs.Epochs+CellEntry.add.Goals as goal

pub write_answer-requires : goal.write_answer-requires
write_answer-requires g c =
    let ahead = subst (λ (x : _). IsAhead x.collector x.closed) (sym c.self.view_is) c.requires.ahead in
    (omega arith, (omega arith, (shows-none c.args.setup.now c.requires.gps, closes-above (window_of signal_of c.self.inside.collector) c.self.inside.closed (outcome_of signal_of c.in_ok-offer.offer) (least-map signal_of c.self.inside.collector.places c.self.inside.collector.sets c.in_ok-offer.offer c.in_ok-offer.ensures.least_closes) ahead)))

pub returns-clause-adds : goal.returns-clause-adds
returns-clause-adds g c =
    let meets : AnswersMessage c.args.setup.now (window_of signal_of c.self.inside.collector) c.args.dated (outcome_of signal_of c.in_ok-offer.offer) (map name_of_gps c.offer.new.conflicts) (window_of signal_of c.offer.new.self) =
    gps-answers c.args.setup.now c.self.inside.collector c.offer.new.self c.args.dated c.in_ok-offer.offer c.offer.new.conflicts c.requires.gps c.requires.taken c.offer.ensures.places c.in_ok-offer.ensures.answer in
    let text : c.deref.result.now ≡ offer_lines c.args.link (number_of (message_of c.args.dated)) (epoch_of c.args.dated) (outcome_of signal_of c.in_ok-offer.offer) (map name_of_gps c.offer.new.conflicts) =
    c.deref.ensures.value ∙ c.in_ok-lines.ensures
    ∙ ap (λ (n : ℕ). class_lines c.args.link n c.epoch-epoch.result (class_named c.class_of-class.result) (map name_of_gps c.as_slice-conflicts.result.now)) c.number-number.ensures
    ∙ ap (λ (e : Option ℕ). class_lines c.args.link (number_of (message_of c.args.dated)) e (class_named c.class_of-class.result) (map name_of_gps c.as_slice-conflicts.result.now)) c.epoch-epoch.ensures.value
    ∙ ap (λ (k : Class). class_lines c.args.link (number_of (message_of c.args.dated)) (epoch_of c.args.dated) k (map name_of_gps c.as_slice-conflicts.result.now)) c.class_of-class.ensures
    ∙ ap (λ (xs : List SatelliteCode). offer_lines c.args.link (number_of (message_of c.args.dated)) (epoch_of c.args.dated) (outcome_of signal_of c.in_ok-offer.offer) (map name_of_gps xs)) c.as_slice-conflicts.ensures.value in
    adds-message (outcome_of signal_of c.in_ok-offer.offer) (map name_of_gps c.offer.new.conflicts) c.self.view_is c.requires.taken c.requires.places c.offer.ensures.places meets text refl c.write_answer.ensures.window c.class_of-class.ensures c.in_ok-write_answer.ensures.writes

pub returns-clause-stays : goal.returns-clause-stays
returns-clause-stays g c =
    let meets : AnswersMessage c.args.setup.now (window_of signal_of c.self.inside.collector) c.args.dated (outcome_of signal_of c.in_ok-offer.offer) (map name_of_gps c.offer.new.conflicts) (window_of signal_of c.offer.new.self) =
    gps-answers c.args.setup.now c.self.inside.collector c.offer.new.self c.args.dated c.in_ok-offer.offer c.offer.new.conflicts c.requires.gps c.requires.taken c.offer.ensures.places c.in_ok-offer.ensures.answer in
    let ahead = ahead-written _ (outcome_of signal_of c.in_ok-offer.offer) c.self.view_is refl c.write_answer.ensures.window (least-map signal_of c.self.inside.collector.places c.self.inside.collector.sets c.in_ok-offer.offer c.in_ok-offer.ensures.least_closes) (below-map signal_of c.in_ok-offer.offer c.offer.new.self.sets c.in_ok-offer.ensures.closed) (never-map signal_of c.self.inside.collector c.offer.new.self c.offer.ensures.least) c.requires.ahead c.in_ok-write_answer.ensures.writes in
    hands-on _ (outcome_of signal_of c.in_ok-offer.offer) (map name_of_gps c.offer.new.conflicts) c.self.view_is c.requires.taken c.offer.ensures.places (omega (arith, c.offer.ensures.bound, length-map c.offer.new.self.sets (set_of signal_of))) meets c.write_answer.ensures.window ahead

pub returns-clause-failed : goal.returns-clause-failed
returns-clause-failed g c =
    record { file_failed = c.in_ok-write_answer.ensures.failed.file_failed; report_failed = c.in_ok-write_answer.ensures.failed.report_failed }

pub returns-in_err-write_answer-clause-adds : goal.returns-in_err-write_answer-clause-adds
returns-in_err-write_answer-clause-adds g c =
    let p = err_from_is_err_and c.from_residual-in_err-write_answer.result c.from_residual-in_err-write_answer.ensures.1 in
    let meets : AnswersMessage c.args.setup.now (window_of signal_of c.self.inside.collector) c.args.dated (outcome_of signal_of c.in_ok-offer.offer) (map name_of_gps c.offer.new.conflicts) (window_of signal_of c.offer.new.self) =
    gps-answers c.args.setup.now c.self.inside.collector c.offer.new.self c.args.dated c.in_ok-offer.offer c.offer.new.conflicts c.requires.gps c.requires.taken c.offer.ensures.places c.in_ok-offer.ensures.answer in
    let text : c.deref.result.now ≡ offer_lines c.args.link (number_of (message_of c.args.dated)) (epoch_of c.args.dated) (outcome_of signal_of c.in_ok-offer.offer) (map name_of_gps c.offer.new.conflicts) =
    c.deref.ensures.value ∙ c.in_ok-lines.ensures
    ∙ ap (λ (n : ℕ). class_lines c.args.link n c.epoch-epoch.result (class_named c.class_of-class.result) (map name_of_gps c.as_slice-conflicts.result.now)) c.number-number.ensures
    ∙ ap (λ (e : Option ℕ). class_lines c.args.link (number_of (message_of c.args.dated)) e (class_named c.class_of-class.result) (map name_of_gps c.as_slice-conflicts.result.now)) c.epoch-epoch.ensures.value
    ∙ ap (λ (k : Class). class_lines c.args.link (number_of (message_of c.args.dated)) (epoch_of c.args.dated) k (map name_of_gps c.as_slice-conflicts.result.now)) c.class_of-class.ensures
    ∙ ap (λ (xs : List SatelliteCode). offer_lines c.args.link (number_of (message_of c.args.dated)) (epoch_of c.args.dated) (outcome_of signal_of c.in_ok-offer.offer) (map name_of_gps xs)) c.as_slice-conflicts.ensures.value in
    rw (p.1, p.2) (adds-in-part (outcome_of signal_of c.in_ok-offer.offer) (map name_of_gps c.offer.new.conflicts) c.self.view_is c.requires.taken c.requires.places c.offer.ensures.places meets text refl c.in_err-write_answer.ensures.writes)

pub returns-in_err-write_answer-clause-stays : goal.returns-in_err-write_answer-clause-stays
returns-in_err-write_answer-clause-stays g c =
    let p = err_from_is_err_and c.from_residual-in_err-write_answer.result c.from_residual-in_err-write_answer.ensures.1 in
    let meets : AnswersMessage c.args.setup.now (window_of signal_of c.self.inside.collector) c.args.dated (outcome_of signal_of c.in_ok-offer.offer) (map name_of_gps c.offer.new.conflicts) (window_of signal_of c.offer.new.self) =
    gps-answers c.args.setup.now c.self.inside.collector c.offer.new.self c.args.dated c.in_ok-offer.offer c.offer.new.conflicts c.requires.gps c.requires.taken c.offer.ensures.places c.in_ok-offer.ensures.answer in
    rw (p.1, p.2) (hands-on _ (outcome_of signal_of c.in_ok-offer.offer) (map name_of_gps c.offer.new.conflicts) c.self.view_is c.requires.taken c.offer.ensures.places (omega (arith, c.offer.ensures.bound, length-map c.offer.new.self.sets (set_of signal_of))) meets c.write_answer.ensures.window tt)

pub returns-in_err-write_answer-clause-failed : goal.returns-in_err-write_answer-clause-failed
returns-in_err-write_answer-clause-failed g c =
    let p = err_from_is_err_and c.from_residual-in_err-write_answer.result c.from_residual-in_err-write_answer.ensures.1 in
    rw (p.1, p.2) (failed-err c.in_err-write_answer.ensures.failed)

pub returns-in_err-lines-clause-adds : goal.returns-in_err-lines-clause-adds
returns-in_err-lines-clause-adds g c =
    let p = err_from_is_err_and c.from_residual-in_err-lines.result c.from_residual-in_err-lines.ensures.1 in
    rw (p.1, p.2) adds-none

pub returns-in_err-lines-clause-stays : goal.returns-in_err-lines-clause-stays
returns-in_err-lines-clause-stays g c =
    let p = err_from_is_err_and c.from_residual-in_err-lines.result c.from_residual-in_err-lines.ensures.1 in
    let meets : AnswersMessage c.args.setup.now (window_of signal_of c.self.inside.collector) c.args.dated (outcome_of signal_of c.in_ok-offer.offer) (map name_of_gps c.offer.new.conflicts) (window_of signal_of c.offer.new.self) =
    gps-answers c.args.setup.now c.self.inside.collector c.offer.new.self c.args.dated c.in_ok-offer.offer c.offer.new.conflicts c.requires.gps c.requires.taken c.offer.ensures.places c.in_ok-offer.ensures.answer in
    rw (p.1, p.2) (hands-on _ (outcome_of signal_of c.in_ok-offer.offer) (map name_of_gps c.offer.new.conflicts) c.self.view_is c.requires.taken c.offer.ensures.places (omega (arith, c.offer.ensures.bound, length-map c.offer.new.self.sets (set_of signal_of))) meets refl tt)

pub returns-in_err-lines-clause-failed : goal.returns-in_err-lines-clause-failed
returns-in_err-lines-clause-failed g c =
    let p = err_from_is_err_and c.from_residual-in_err-lines.result c.from_residual-in_err-lines.ensures.1 in
    rw (p.1, p.2) (record { file_failed = refl; report_failed = refl })

pub returns-in_err-offer-clause-adds : goal.returns-in_err-offer-clause-adds
returns-in_err-offer-clause-adds g c =
    let p = err_from_is_err_and c.from_residual.result c.from_residual.ensures.1 in
    rw (p.1, p.2) adds-none

pub returns-in_err-offer-clause-stays : goal.returns-in_err-offer-clause-stays
returns-in_err-offer-clause-stays g c =
    let p = err_from_is_err_and c.from_residual.result c.from_residual.ensures.1 in
    rw (p.1, p.2) (hands-back _ c.self.view_is c.offer.ensures.places (omega (arith, c.offer.ensures.bound, length-map c.offer.new.self.sets (set_of signal_of))) (ap (window_of signal_of) c.in_err-offer.ensures.err) refl)

pub returns-in_err-offer-clause-failed : goal.returns-in_err-offer-clause-failed
returns-in_err-offer-clause-failed g c =
    let p = err_from_is_err_and c.from_residual.result c.from_residual.ensures.1 in
    rw (p.1, p.2) (record { file_failed = refl; report_failed = refl })
