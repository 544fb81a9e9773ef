-- How a call ends, at a conversion that was opened.
use Rattle.std.proofs.Common.{◌≡◌, ℕ, Bool, List, Option, Result, Ok, Err, ap, sym, subst, ◌∙◌}
use Rattle.std.specs.Prelude.{OnOk}
use Rattle.rtk_obs.specs.declared.signal_cells.SignalEntry.{SignalEntry}
use Rattle.rtk_collect.specs.Arrival.{Arrival}
use Rattle.rtk_collect.specs.Collector.{CollectorView}
use Rattle.rtk_convert.specs.ClosedEpochs.{ClosedEpochsView}
use Rattle.rtk_setup.specs.declared.counts.Counts.{Counts}
use Rattle.rtk_convert.specs.declared.remarks.Remarks.{Remarks}
use Rattle.rtk_convert.specs.declared.fault.ConvertFault.{ConvertFault}
use Rattle.rtk_convert.specs.declared.frame_class.FrameClass.{FrameClass}
use Rattle.rtk_convert.specs.Conversion.{ConversionView, IsAhead}
use Rattle.rtk_convert.specs.Failure.{IsFrameFault}
use Rattle.rtk_convert.specs.FrameClass.{IsClassOfPayload}
use Rattle.rtk_convert.specs.History.{epoch_found}
use Rattle.rtk_convert.specs.Outcome.{KeepsWindow, NamesFailedStreams}
use Rattle.rtk_convert.specs.Steps.AcceptedFrame.{AcceptsFrame, BreaksOffAtFrame, HandlesPayload, IsUnderWay, MayBreakOff, StaysUnderWay}
use Rattle.rtk_convert.specs.Steps.AddedMessage.{AddsMessage, AddsMessageInPart, HandlesMessage}
use Rattle.rtk_convert.specs.Steps.Closing.{FinishesConversion, FinishesConversionInPart, EndsConversion}
use Rattle.rtk_setup.specs.Setup.{SetupView}
use Rattle.rtk_convert.specs.Writing.{Written}
use Rattle.rtk_convert.proofs.ArriveLemmas.{state, arrives-still, breaks-still}

-- what is kept of the opened conversion is kept of the conversion
pub keeps-seen : {opened old new : ConversionView} → opened ≡ old → KeepsWindow opened new → KeepsWindow old new
keeps-seen {opened} {old} {new} seen k = subst (λ (x : ConversionView). KeepsWindow x new) seen k

pub keeps-on : {old mid new : ConversionView} → KeepsWindow old mid → KeepsWindow mid new → KeepsWindow old new
keeps-on {old} {mid} {new} p q = record { same_setup = q.same_setup ∙ p.same_setup; few = q.few; held = λ h. q.held (p.held h) }

-- what a step of a call leaves of the opened conversion it leaves of the conversion
pub stays-seen : {T : Type 0} {opened old new : ConversionView} {r : Result T ConvertFault} → opened ≡ old → IsUnderWay old → KeepsWindow opened new
    → new.stopped ≡ opened.stopped → OnOk r (IsAhead new.collector new.closed_epochs) → StaysUnderWay old r new
stays-seen {T} {opened} {old} {new} {r} seen under keeps same ahead =
    record { keeps = keeps-seen seen keeps; stopped = same ∙ ap (λ (x : ConversionView). x.stopped) seen ∙ under.stopped; ahead = ahead }

pub ahead-seen : {opened old : ConversionView} → opened ≡ old → IsUnderWay old → IsAhead opened.collector opened.closed_epochs
ahead-seen {opened} {old} seen under = subst (λ (x : ConversionView). IsAhead x.collector x.closed_epochs) (sym seen) under.ahead

-- the failed streams are those of the fault, whatever else the call could answer
pub failed-err : {T U : Type 0} {fault : ConvertFault} {out_old out_new log_old log_new : ℕ}
    → NamesFailedStreams {T = T} (Err fault) out_old out_new log_old log_new → NamesFailedStreams {T = U} (Err fault) out_old out_new log_old log_new
failed-err f = record { file_failed = f.file_failed; report_failed = f.report_failed }

-- a payload of this class was accepted
pub payload-ok : {opened old new : ConversionView} {link : ℕ} {payload : List ℕ} {epoch : Option ℕ} {o o' : Written} (f : FrameClass)
    → opened ≡ old → IsClassOfPayload opened.setup payload f → epoch ≡ epoch_found f → AcceptsFrame opened link payload new o o'
    → HandlesPayload old link payload (Ok epoch) new o o'
payload-ok {opened} {old} {new} {link} {payload} {epoch} {o} {o'} f seen comes is accepts =
    subst (λ (x : ConversionView). HandlesPayload x link payload (Ok epoch) new o o') seen
    (record { epoch = (f, comes, is); ok = accepts; err = tt; fault = tt; cause = tt })

-- the call breaks off at a payload of this class
pub payload-err : {opened old new : ConversionView} {link : ℕ} {payload : List ℕ} {o o' : Written} (fault : ConvertFault) (f : FrameClass)
    → opened ≡ old → IsClassOfPayload opened.setup payload f → MayBreakOff f → IsFrameFault fault → BreaksOffAtFrame opened link payload o o'
    → HandlesPayload old link payload (Err fault) new o o'
payload-err {opened} {old} {new} {link} {payload} {o} {o'} fault f seen comes may is breaks =
    subst (λ (x : ConversionView). HandlesPayload x link payload (Err fault) new o o') seen
    (record { epoch = tt; ok = tt; err = breaks; fault = is; cause = (f, comes, may) })

-- whether the conversion has stopped changes nothing of this
pub payload-still : {s s' : SetupView} {w w' : CollectorView SignalEntry} {c c' : ClosedEpochsView} {k k' : Counts} {y y' : Remarks} {b b' d d' : Bool} {old mid : ConversionView} {link : ℕ} {payload : List ℕ} {epoch : Option ℕ} {o o' : Written}
    → state s w c k y d ≡ old → state s' w' c' k' y' b' ≡ mid → HandlesPayload (state s w c k y b) link payload (Ok epoch) mid o o'
    → HandlesPayload old link payload (Ok epoch) (state s' w' c' k' y' d') o o'
payload-still {s} {s'} {w} {w'} {c} {c'} {k} {k'} {y} {y'} {b} {b'} {d} {d'} {old} {mid} {link} {payload} {epoch} {o} {o'} seen after h =
    let accepts = subst (λ (x : ConversionView). AcceptsFrame (state s w c k y b) link payload x o o') (sym after) h.ok in
    subst (λ (x : ConversionView). HandlesPayload x link payload (Ok epoch) (state s' w' c' k' y' d') o o') seen
    (record { epoch = h.epoch; ok = arrives-still payload accepts; err = tt; fault = tt; cause = tt })

pub payload-off : {s : SetupView} {w : CollectorView SignalEntry} {c : ClosedEpochsView} {k : Counts} {y : Remarks} {b d : Bool} {old mid new : ConversionView} {link : ℕ} {payload : List ℕ} {fault : ConvertFault} {o o' : Written}
    → state s w c k y d ≡ old → HandlesPayload (state s w c k y b) link payload (Err fault) mid o o' → HandlesPayload old link payload (Err fault) new o o'
payload-off {s} {w} {c} {k} {y} {b} {d} {old} {mid} {new} {link} {payload} {fault} {o} {o'} seen h =
    subst (λ (x : ConversionView). HandlesPayload x link payload (Err fault) new o o') seen
    (record { epoch = tt; ok = tt; err = breaks-still payload h.err; fault = h.fault; cause = h.cause })

pub message-ok : {T : Type 0} {answer : T} {opened old new : ConversionView} {link : ℕ} {a : Arrival} {o o' : Written}
    → opened ≡ old → AddsMessage opened link a new o o' → HandlesMessage old link a (Ok answer) new o o'
message-ok {T} {answer} {opened} {old} {new} {link} {a} {o} {o'} seen adds =
    subst (λ (x : ConversionView). HandlesMessage x link a (Ok answer) new o o') seen (record { ok = adds; err = tt; fault = tt })

pub message-err : {T : Type 0} {opened old new : ConversionView} {link : ℕ} {a : Arrival} {o o' : Written} (fault : ConvertFault)
    → opened ≡ old → IsFrameFault fault → AddsMessageInPart opened link a o o' → HandlesMessage {T = T} old link a (Err fault) new o o'
message-err {T} {opened} {old} {new} {link} {a} {o} {o'} fault seen is part =
    subst (λ (x : ConversionView). HandlesMessage {T = T} x link a (Err fault) new o o') seen
    (record { ok = tt; err = part; fault = is })

pub ends-ok : {opened old : ConversionView} {counts : Counts} {o o' : Written} → opened ≡ old → FinishesConversion opened counts o o' → EndsConversion old (Ok counts) o o'
ends-ok {opened} {old} {counts} {o} {o'} seen whole = subst (λ (x : ConversionView). EndsConversion x (Ok counts) o o') seen (record { ok = whole; err = tt; fault = tt })

pub ends-err : {opened old : ConversionView} {o o' : Written} (fault : ConvertFault) → opened ≡ old → IsFrameFault fault → FinishesConversionInPart opened o o' → EndsConversion old (Err fault) o o'
ends-err {opened} {old} {o} {o'} fault seen is part = subst (λ (x : ConversionView). EndsConversion x (Err fault) o o') seen (record { ok = tt; err = part; fault = is })
