-- The epochs of a conversion: none at the start, what comes of an answer, and the end.
use Rattle.std.proofs.Common.{◌≡◌, ◌∙◌, ℕ, zero, suc, ◌<◌, ◌≤◌, List, [], ◌∷◌, length, take, Option, None, Some, Result, Ok, Err, refl, sym, ap, subst, arith, Bool}
use Rattle.std.specs.Prelude.{OnOk, IfErr}
use Rattle.rtk_obs.specs.declared.any_code.AnyCode.{AnyCode}
use Rattle.rtk_obs.specs.declared.signal_cells.SignalEntry.{SignalEntry}
use Rattle.rtk_message.specs.declared.any_message.AnyMessage.{AnyMessage as Message}
use Rattle.rtk_message.specs.AnyDecoded.{number_of}
use Rattle.rtk_collect.specs.declared.conflicts.AnySatelliteCode.{AnySatelliteCode}
use Rattle.rtk_collect.specs.declared.outcome.Outcome.{Outcome}
use Rattle.rtk_collect.specs.Arrival.{Arrival, epoch_of, message_of}
use Rattle.rtk_collect.specs.Collector.{CollectorView}
use Rattle.rtk_collect.specs.EpochSet.{EpochSetView}
use Rattle.rtk_collect.specs.Offered.{AnswersArrival, ClosesBelow, ClosesLeast, LeastNeverFalls}
use Rattle.rtk_collect.specs.Signals.{signals}
use Rattle.rtk_frame.specs.Stream.{with_more, TakesPart}
use Rattle.rtk_frame.proofs.PublicLaws.{with_more-nil}
use Rattle.rtk_rinex.specs.Header.{PositionView}
use Rattle.rtk_convert.specs.declared.fault.ConvertFault.{ConvertFault}
use Rattle.rtk_convert.specs.declared.fault.ConvertFault.TheVariants.{OutOfMemory, Write}
use Rattle.rtk_convert.specs.declared.fault.Stream.TheVariants.{Log}
use Rattle.rtk_convert.specs.declared.message_class.MessageClass.{MessageClass}
use Rattle.rtk_convert.specs.ClosedEpochs.{ClosedEpochsView, HasClosed}
use Rattle.rtk_convert.specs.Conversion.{HoldsArrivals, HoldsKept, IsAhead}
use Rattle.rtk_convert.specs.Epochs.{EpochsView, window_of}
use Rattle.rtk_convert.specs.Failure.{IsFrameFault}
use Rattle.rtk_setup.specs.Setup.{SetupView, cells_by}
use Rattle.rtk_convert.specs.Writing.{Written}
use Rattle.rtk_convert.specs.Steps.AddedMessage.{AddsArrival, AddsArrivalAs, IsTakenBy, closed_by}
use Rattle.rtk_convert.specs.Steps.ClosedText.{closing, header_before}
use Rattle.rtk_convert.specs.Steps.Closing.{ClosesEpochs, ClosesEpochsInPart, EndsEpochs}
use Rattle.rtk_convert.specs.Steps.EpochsSteps.{AreNewEpochs, HandsOn}
use Rattle.rtk_convert.specs.Steps.OfferLines.{class_named, class_of_offer, offer_lines}
use Rattle.rtk_convert.specs.Steps.OfferedMessage.{AnswersMessage}
use Rattle.rtk_convert.specs.Steps.ShownCells.{AllBelow}
use Rattle.rtk_convert.specs.Steps.WritingInPart.{PutsText}
use Rattle.rtk_convert.specs.Steps.WrittenAnswer.{WritesAnswer, site_of_window}
use Rattle.rtk_convert.proofs.AddLemmas.{adds-all, adds-nothing, adds-part, epochs, holds-more}
use Rattle.rtk_convert.proofs.AheadLemmas.{ahead-next, ahead-none}
use Rattle.rtk_convert.proofs.FinishLemmas.{finish-all, finish-part-records, finish-part-header}
use Rattle.rtk_convert.proofs.WritingLemmas.{on_ok-map, takes-none}

-- ---- no message came

-- a window with this many places and nothing in it
abbrev pub empty_window : {E : Type 0} → ℕ → CollectorView E
empty_window n = record { places = n; sets = []; arp1005 = None; arp1006 = None }

take-none : (n : ℕ) → take {A = EpochSetView SignalEntry} n [] ≡ []
take-none zero = refl
take-none (suc n) = refl

nothing-kept : (s : SetupView) (w : CollectorView SignalEntry) → w ≡ empty_window s.window → HoldsKept s w []
nothing-kept s w is =
    subst (λ (x : CollectorView SignalEntry). HoldsKept s x []) (sym is)
    (record { taken = λ k d lt. absurd (omega arith); window = record { sets = sym (take-none s.window); arp1005 = refl; arp1006 = refl } })

pub new-epochs : {E : Type 0} (f : E → SignalEntry) (s : SetupView) (w : CollectorView E) (c : ClosedEpochsView) (size : ℕ) → w ≡ empty_window size → size ≡ s.window
    → ((doppler : Bool) (listed : List AnyCode) → HasClosed c doppler listed []) → ((epoch : ℕ) → AllBelow c.tracks epoch) → AreNewEpochs s (epochs (window_of f w) c)
new-epochs f s w c size is same follows below =
    let empty : window_of f w ≡ empty_window s.window = ap (window_of f) is ∙ ap empty_window same in
    record {
      represents = record { kept = nothing-kept s (window_of f w) empty; closed = follows s.head.doppler s.head.listed };
      places = ap (λ (x : CollectorView SignalEntry). x.places) empty;
      few = subst (λ (x : CollectorView SignalEntry). length x.sets ≤ s.window) (sym empty) (omega arith);
      ahead = ahead-none (window_of f w) c (below 0);
    }

-- ---- an answer

on_ok-from : {T E : Type 0} (r : Result T E) {P : Type 0} → P → OnOk r P
on_ok-from (Ok x) p = p
on_ok-from (Err e) p = tt

log-frame : {T : Type 0} (r : Result T ConvertFault) → IfErr r (λ f. f ≡ Write Log) → IfErr r IsFrameFault
log-frame (Ok x) h = tt
log-frame (Err f) h = subst IsFrameFault (sym h) tt

-- no epoch closes
pub writes-lines : {T : Type 0} (r : Result T ConvertFault) {s : SetupView} {opened old : EpochsView} {set : Option (EpochSetView SignalEntry)} {lines : List ℕ} {o o' : Written}
    → opened ≡ old → set ≡ None → o'.file ≡ o.file → PutsText r o.report o'.report lines → IfErr r (λ f. f ≡ Write Log) → WritesAnswer s old set lines r opened o o'
writes-lines {T} r {s} {opened} {old} {set} {lines} {o} {o'} seen none file report fault =
    subst (λ (x : Option (EpochSetView SignalEntry)). WritesAnswer s old x lines r opened o o') (sym none)
    (record {
      closes = on_ok-from r (λ below h. subst (λ (x : EpochsView). HasClosed x.closed s.head.doppler s.head.listed below) (sym seen) h);
      below = on_ok-from r (ap (λ (x : EpochsView). x.closed) seen);
      file = λ below h. record { all = on_ok-from r (file ∙ sym (with_more-nil o.file)); part = subst (λ (x : Option (List ℕ)). TakesPart o.file x []) (sym file) (takes-none o.file []) };
      report = report;
      fault = log-frame r fault;
    })

-- one closes, and the lines follow its record
pub writes-record : {T : Type 0} (r : Result T ConvertFault) {s : SetupView} {w : CollectorView SignalEntry} {c c' : ClosedEpochsView} {old : EpochsView} {set : Option (EpochSetView SignalEntry)} {e : EpochSetView SignalEntry} {site : PositionView} {lines : List ℕ} {o o' : Written}
    → epochs w c ≡ old → set ≡ Some e → site ≡ site_of_window w
    → ((below : List (EpochSetView SignalEntry)) → HasClosed c s.head.doppler s.head.listed below → HasClosed c' s.head.doppler s.head.listed (e ∷ below))
    → ((below : List (EpochSetView SignalEntry)) → HasClosed c s.head.doppler s.head.listed below → o'.file ≡ with_more o.file (closing s site e below))
    → ((below : List (EpochSetView SignalEntry)) → HasClosed c s.head.doppler s.head.listed below → TakesPart o.file o'.file (closing s site e below))
    → ((later : ℕ) → e.epoch < later → AllBelow c'.tracks later)
    → PutsText r o.report o'.report lines → IfErr r (λ f. f ≡ Write Log) → WritesAnswer s old set lines r (epochs w c') o o'
writes-record {T} r {s} {w} {c} {c'} {old} {set} {e} {site} {lines} {o} {o'} seen some is follows all part later report fault =
    subst (λ (x : EpochsView). WritesAnswer s x set lines r (epochs w c') o o') seen
    (subst (λ (x : Option (EpochSetView SignalEntry)). WritesAnswer s (epochs w c) x lines r (epochs w c') o o') (sym some)
    (record {
      closes = on_ok-from r follows;
      below = on_ok-from r later;
      file = λ below h. record {
        all = on_ok-from r (all below h ∙ ap (λ (x : PositionView). with_more o.file (closing s x e below)) is);
        part = subst (λ (x : PositionView). TakesPart o.file o'.file (closing s x e below)) is (part below h);
      };
      report = report;
      fault = log-frame r fault;
    }))

-- it breaks off in the record
pub writes-part : {T : Type 0} (fault : ConvertFault) {s : SetupView} {w : CollectorView SignalEntry} {c : ClosedEpochsView} {old new : EpochsView} {set : Option (EpochSetView SignalEntry)} {e : EpochSetView SignalEntry} {site : PositionView} {lines : List ℕ} {o o' : Written}
    → epochs w c ≡ old → set ≡ Some e → site ≡ site_of_window w
    → ((below : List (EpochSetView SignalEntry)) → HasClosed c s.head.doppler s.head.listed below → TakesPart o.file o'.file (closing s site e below))
    → o'.report ≡ o.report → IsFrameFault fault → WritesAnswer {T = T} s old set lines (Err fault) new o o'
writes-part {T} fault {s} {w} {c} {old} {new} {set} {e} {site} {lines} {o} {o'} seen some is part report frame =
    subst (λ (x : EpochsView). WritesAnswer {T = T} s x set lines (Err fault) new o o') seen
    (subst (λ (x : Option (EpochSetView SignalEntry)). WritesAnswer {T = T} s (epochs w c) x lines (Err fault) new o o') (sym some)
    (record {
      closes = tt;
      below = tt;
      file = λ below h. record { all = tt; part = subst (λ (x : PositionView). TakesPart o.file o'.file (closing s x e below)) is (part below h) };
      report = record { all = tt; part = subst (λ (x : Option (List ℕ)). TakesPart o.report x lines) (sym report) (takes-none o.report lines) };
      fault = frame;
    }))

-- ---- the end

pub ends-all : {s : SetupView} {w : CollectorView SignalEntry} {c c' : ClosedEpochsView} {old : EpochsView} {site : PositionView} {count : ℕ} {o mid out : Option (List ℕ)}
    → epochs w c ≡ old → old.collector.places ≡ s.window → site ≡ site_of_window w → ClosesEpochs s site c w.sets c' o mid
    → out ≡ with_more mid (header_before s site s.near c'.is_header_out) → count ≡ c'.count → EndsEpochs s old (Ok count) o out
ends-all {s} {w} {c} {c'} {old} {site} {count} {o} {mid} {out} seen size is closes header count_is =
    subst (λ (x : EpochsView). EndsEpochs s x (Ok count) o out) seen
    (record {
      ok = λ A rep. let t = finish-all (ap (λ (x : EpochsView). x.collector.places) seen ∙ size) is closes header A rep in (count_is ∙ t.0, t.1);
      err = tt;
      fault = tt;
    })

pub ends-records : {s : SetupView} {w : CollectorView SignalEntry} {c : ClosedEpochsView} {old : EpochsView} {site : PositionView} {o out : Option (List ℕ)} (fault : ConvertFault)
    → epochs w c ≡ old → old.collector.places ≡ s.window → site ≡ site_of_window w → ClosesEpochsInPart s site c w.sets o out → IsFrameFault fault → EndsEpochs s old (Err fault) o out
ends-records {s} {w} {c} {old} {site} {o} {out} fault seen size is closes frame =
    subst (λ (x : EpochsView). EndsEpochs s x (Err fault) o out) seen
    (record { ok = tt; err = λ A rep. finish-part-records (ap (λ (x : EpochsView). x.collector.places) seen ∙ size) is o closes A rep; fault = frame })

pub ends-header : {s : SetupView} {w : CollectorView SignalEntry} {c c' : ClosedEpochsView} {old : EpochsView} {site : PositionView} {o mid out : Option (List ℕ)} (fault : ConvertFault)
    → epochs w c ≡ old → old.collector.places ≡ s.window → site ≡ site_of_window w → ClosesEpochs s site c w.sets c' o mid
    → TakesPart mid out (header_before s site s.near c'.is_header_out) → IsFrameFault fault → EndsEpochs s old (Err fault) o out
ends-header {s} {w} {c} {c'} {old} {site} {o} {mid} {out} fault seen size is closes part frame =
    subst (λ (x : EpochsView). EndsEpochs s x (Err fault) o out) seen
    (record { ok = tt; err = λ A rep. finish-part-header (ap (λ (x : EpochsView). x.collector.places) seen ∙ size) is closes part A rep; fault = frame })

-- ---- a message

size-seen : {w : CollectorView SignalEntry} {c : ClosedEpochsView} {old : EpochsView} {n : ℕ} → epochs w c ≡ old → old.collector.places ≡ n → w.places ≡ n
size-seen {w} {c} {old} {n} seen size = ap (λ (x : EpochsView). x.collector.places) seen ∙ size

module _ {s : SetupView} {w w' : CollectorView SignalEntry} {c : ClosedEpochsView} {old : EpochsView} {link : ℕ} {a : Arrival} (offer : Outcome SignalEntry AnySatelliteCode) (listed : List AnySatelliteCode) {lines : List ℕ}
    (seen : epochs w c ≡ old) (taken : IsTakenBy s (message_of a)) (size : old.collector.places ≡ s.window) (same : w'.places ≡ w.places) (meets : AnswersMessage s w a offer listed w')
    (text : lines ≡ offer_lines link (number_of (message_of a)) (epoch_of a) offer listed) where
  -- all of it is written
  pub adds-message : {T : Type 0} {answer : T} {class : MessageClass} {mid new : EpochsView} {o o' : Written} → epochs w' c ≡ mid → new.collector ≡ mid.collector → class_named class ≡ class_of_offer offer
      → WritesAnswer s mid (closed_by offer) lines (Ok answer) new o o' → AddsArrival s old link a (Ok class) new o o'
  adds-message {T} {answer} {class} {mid} {new} {o} {o'} is stays named writes =
      let wrote = subst (λ (x : EpochsView). WritesAnswer s x (closed_by offer) lines (Ok answer) new o o') (sym is) writes in
      let window : new.collector ≡ w' = stays ∙ ap (λ (x : EpochsView). x.collector) (sym is) in
      subst (λ (x : EpochsView). AddsArrival s x link a (Ok class) new o o') seen
      (record {
        ok = λ before rep.
            subst (λ (x : CollectorView SignalEntry). AddsArrivalAs s (epochs w c) link a class before (epochs x new.closed) o o') (sym window)
            (adds-all offer listed taken (size-seen seen size) same meets text named wrote.closes (λ below h. (wrote.file below h).all) wrote.report.all before rep);
        err = tt;
        fault = tt;
      })

  -- a first part of it
  pub adds-in-part : {T : Type 0} {fault : ConvertFault} {mid new new' : EpochsView} {o o' : Written} → epochs w' c ≡ mid
      → WritesAnswer {T = T} s mid (closed_by offer) lines (Err fault) new o o' → AddsArrival s old link a (Err fault) new' o o'
  adds-in-part {T} {fault} {mid} {new} {new'} {o} {o'} is writes =
      let wrote = subst (λ (x : EpochsView). WritesAnswer {T = T} s x (closed_by offer) lines (Err fault) new o o') (sym is) writes in
      subst (λ (x : EpochsView). AddsArrival s x link a (Err fault) new' o o') seen
      (record {
        ok = tt;
        err = λ before rep. adds-part offer listed taken (size-seen seen size) same meets text (λ below h. (wrote.file below h).part) wrote.report.part before rep;
        fault = wrote.fault;
      })

-- nothing of it, since memory is refused
pub adds-none : {s : SetupView} {old new : EpochsView} {link : ℕ} {a : Arrival} {o : Written} → AddsArrival s old link a (Err OutOfMemory) new o o
adds-none {s} {old} {new} {link} {a} {o} = record { ok = tt; err = λ before rep. adds-nothing; fault = tt }

-- what the call leaves
pub hands-on : {T : Type 0} (r : Result T ConvertFault) {s : SetupView} {w w' : CollectorView SignalEntry} {c : ClosedEpochsView} {old new : EpochsView} {a : Arrival} (offer : Outcome SignalEntry AnySatelliteCode) (listed : List AnySatelliteCode)
    → epochs w c ≡ old → IsTakenBy s (message_of a) → w'.places ≡ w.places → length w'.sets ≤ w'.places → AnswersMessage s w a offer listed w' → new.collector ≡ w'
    → OnOk r (IsAhead new.collector new.closed) → HandsOn s old r new
hands-on {T} r {s} {w} {w'} {c} {old} {new} {a} offer listed seen taken same few meets is ahead =
    subst (λ (x : EpochsView). HandsOn s x r new) seen
    (record {
      places = ap (λ (x : CollectorView SignalEntry). x.places) is ∙ same;
      few = subst (λ (x : CollectorView SignalEntry). length x.sets ≤ x.places) (sym is) few;
      held = λ h. subst (HoldsArrivals s) (sym is) (a ∷ h.0, holds-more taken h.1 (meets h.0 h.1).1);
      ahead = ahead;
    })

-- the next window is above all last phases too
pub ahead-written : {T : Type 0} (r : Result T ConvertFault) {s : SetupView} {w w' : CollectorView SignalEntry} {c : ClosedEpochsView} {old mid new : EpochsView} (offer : Outcome SignalEntry AnySatelliteCode) {lines : List ℕ} {o o' : Written}
    → epochs w c ≡ old → epochs w' c ≡ mid → new.collector ≡ mid.collector → ClosesLeast w.places w.sets offer → ClosesBelow offer w'.sets → LeastNeverFalls w w' → IsAhead old.collector old.closed
    → WritesAnswer s mid (closed_by offer) lines r new o o' → OnOk r (IsAhead new.collector new.closed)
ahead-written {T} r {s} {w} {w'} {c} {old} {mid} {new} offer {lines} {o} {o'} seen is stays least below never ahead writes =
    let wrote = subst (λ (x : EpochsView). WritesAnswer s x (closed_by offer) lines r new o o') (sym is) writes in
    let window : new.collector ≡ w' = stays ∙ ap (λ (x : EpochsView). x.collector) (sym is) in
    let before : IsAhead w c = subst (λ (x : EpochsView). IsAhead x.collector x.closed) (sym seen) ahead in
    on_ok-map r (λ keeps. subst (λ (x : CollectorView SignalEntry). IsAhead x new.closed) (sym window) (ahead-next w w' c new.closed offer least below never before keeps)) wrote.below

-- memory is refused before the message is offered
pub hands-back : {T : Type 0} (fault : ConvertFault) {s : SetupView} {w w' : CollectorView SignalEntry} {c : ClosedEpochsView} {old new : EpochsView}
    → epochs w c ≡ old → w'.places ≡ w.places → length w'.sets ≤ w'.places → w' ≡ w → new.collector ≡ w' → HandsOn {T = T} s old (Err fault) new
hands-back {T} fault {s} {w} {w'} {c} {old} {new} seen same few unchanged is =
    subst (λ (x : EpochsView). HandsOn {T = T} s x (Err fault) new) seen
    (record {
      places = ap (λ (x : CollectorView SignalEntry). x.places) is ∙ same;
      few = subst (λ (x : CollectorView SignalEntry). length x.sets ≤ x.places) (sym is) few;
      held = λ h. subst (HoldsArrivals s) (sym (is ∙ unchanged)) h;
      ahead = tt;
    })

-- an answer by the channels of the setup is one of the setup
pub signal-answers : (s : SetupView) (of : Message → List SignalEntry) (old new : CollectorView SignalEntry) (a : Arrival) (offer : Outcome SignalEntry AnySatelliteCode) (listed : List AnySatelliteCode)
    → of ≡ cells_by s → AnswersArrival signals of old a offer listed new → AnswersMessage s old a offer listed new
signal-answers s of old new a offer listed same meets before kept =
    let meets_by = subst (λ (f : Message → List SignalEntry). AnswersArrival signals f old a offer listed new) same meets in
    meets_by before kept.window
