-- What a call on a link leaves of a converter: what it holds is bounded.
use Rattle.std.proofs.Common.{◌≡◌, ◌≤◌, ℕ, Bool, [], ◌++◌, List, length, true, false, Option, None, Some, Result, Ok, Err, if◌then◌else◌, replicate, set, refl, sym, subst, arith}
use Rattle.std.specs.Prelude.{All, OnOk, slice_get}
use Rattle.std.proofs.lemmas.List.{length-set}
use Rattle.std.proofs.lemmas.List.Elements.{All-set, All-replicate}
use Rattle.rtk_frame.specs.Frames.{final_frames, frames, payloads, pending}
use Rattle.rtk_frame.specs.ScannerView.{scanner_view}
use Rattle.rtk_convert.specs.Conversion.{ConversionView, HoldsArrivals}
use Rattle.rtk_convert.specs.Converter.{ConverterView, IsConverterView, HoldsAtMost, FeedsLink, EndsLink, LeavesConverter, link_refusal, refusal}
use Rattle.rtk_convert.specs.Failure.{IsFrameFault}
use Rattle.rtk_convert.specs.Steps.LinkFrames.{TakesFrames}
use Rattle.rtk_convert.specs.Writing.{Written}
use Rattle.rtk_convert.specs.declared.fault.ConvertFault.{ConvertFault}
use Rattle.rtk_convert.specs.declared.fault.ConvertFault.TheVariants.{NoLink, LinkClosed, Stopped}
use Rattle.rtk_convert.specs.declared.link_state.LinkState.{LinkState}
use Rattle.rtk_convert.proofs.ConverterLemmas.{converter, feeds, feeds-part, closes, closes-part}
use Rattle.rtk_convert.proofs.GreatestLemmas.{cells-few}
use Rattle.rtk_convert.proofs.WritingLemmas.{if_err-map}

pub bounded : (c : ConverterView) → All (λ (l : LinkState). length l.scanner.pending ≤ 1029) c.links → length c.conversion.collector.sets ≤ c.conversion.setup.window
    → HoldsArrivals c.conversion.setup c.conversion.collector → HoldsAtMost c
bounded c short epochs held = record { bytes = short; epochs = epochs; cells = cells-few c.conversion.setup c.conversion.collector held }

pub bounded-before : (c : ConverterView) → IsConverterView c → HoldsAtMost c
bounded-before c p = bounded c p.short p.epochs p.held

-- after a call on one link
pub bounded-after : (conversion : ConversionView) (links : List LinkState) (k : ℕ) (l : LinkState) → All (λ (l : LinkState). length l.scanner.pending ≤ 1029) links → length l.scanner.pending ≤ 1029
    → length conversion.collector.sets ≤ conversion.setup.window → HoldsArrivals conversion.setup conversion.collector → HoldsAtMost (converter conversion (set links k l))
bounded-after conversion links k l all short epochs held =
    bounded (converter conversion (set links k l)) (All-set (λ (l : LinkState). length l.scanner.pending ≤ 1029) links k l short all) epochs held

-- of new links
pub bounded-new : (conversion : ConversionView) (links : List LinkState) (n : ℕ) → links ≡ replicate n (record { scanner = scanner_view [] false; newest = None })
    → length conversion.collector.sets ≤ conversion.setup.window → HoldsArrivals conversion.setup conversion.collector → HoldsAtMost (converter conversion links)
bounded-new conversion links n new epochs held =
    bounded (converter conversion links) (subst (All (λ (l : LinkState). length l.scanner.pending ≤ 1029)) (sym new) (All-replicate (λ (l : LinkState). length l.scanner.pending ≤ 1029) n (record { scanner = scanner_view [] false; newest = None }) (omega arith))) epochs held

-- ---- a call that is refused

not-frame-link : (ended : Bool) (fault : ConvertFault) → (if ended then Some LinkClosed else None) ≡ Some fault → IsFrameFault fault → ⊥
not-frame-link true fault e is = let same : LinkClosed ≡ fault = cc in subst IsFrameFault (sym same) is
not-frame-link false fault e is = absurd cc

not-frame : (stopped : Bool) (o : Option LinkState) (fault : ConvertFault) → (if stopped then Some Stopped else link_refusal o) ≡ Some fault → IsFrameFault fault → ⊥
not-frame true o fault e is = let same : Stopped ≡ fault = cc in subst IsFrameFault (sym same) is
not-frame false None fault e is = let same : NoLink ≡ fault = cc in subst IsFrameFault (sym same) is
not-frame false (Some l) fault e is = not-frame-link l.scanner.ended fault e is

-- it breaks off no frame, and leaves the converter as it is
pub refused-feeds : {T : Type 0} {old new : ConverterView} {link : ℕ} {piece : List ℕ} {fault : ConvertFault} {o o' : Written} → refusal old link ≡ Some fault → FeedsLink {T = T} old link piece (Err fault) new o o'
refused-feeds {T} {old} {new} {link} {piece} {fault} why = record { ok = tt; err = λ is. absurd (not-frame old.conversion.stopped (slice_get old.links link) fault why is) }

pub refused-ends : {T : Type 0} {old new : ConverterView} {link : ℕ} {fault : ConvertFault} {o o' : Written} → refusal old link ≡ Some fault → EndsLink {T = T} old link (Err fault) new o o'
refused-ends {T} {old} {new} {link} {fault} why = record { ok = tt; err = λ is. absurd (not-frame old.conversion.stopped (slice_get old.links link) fault why is) }

some-not-none : (o : Option ConvertFault) (fault : ConvertFault) → o ≡ Some fault → o ≡ None → ⊥
some-not-none o fault some none = cc

pub refused-leaves : {T : Type 0} {old : ConverterView} {link : ℕ} {fault : ConvertFault} → refusal old link ≡ Some fault → HoldsAtMost old → LeavesConverter {T = T} old link (Err fault) old
refused-leaves {T} {old} {link} {fault} why holds = record {
  going = tt;
  halts = λ is. absurd (not-frame old.conversion.stopped (slice_get old.links link) fault why is);
  fault = λ none. absurd (some-not-none (refusal old link) fault why none);
  same_setup = refl;
  as_many = refl;
  bounds = holds;
}

-- ---- a call that is not refused, at the opened converter

-- the frames of a link by its number
pub takes-as : {T : Type 0} {old new : ConversionView} {number link : ℕ} {found : List (List ℕ)} {r : Result T ConvertFault} {newest newest' : Option ℕ} {o o' : Written}
    → number ≡ link → TakesFrames old number found r new newest newest' o o' → TakesFrames old link found r new newest newest' o o'
takes-as {T} {old} {new} {number} {link} {found} {r} {newest} {newest'} {o} {o'} is t = subst (λ (n : ℕ). TakesFrames old n found r new newest newest' o o') is t

pub feeds-link : {T : Type 0} {opened old : ConverterView} {conversion : ConversionView} {link : ℕ} {piece : List ℕ} {l : LinkState} {o o' : Written} (new : LinkState) (r : Result T ConvertFault)
    → opened ≡ old → slice_get opened.links link ≡ Some l → l.scanner.ended ≡ false → new.scanner.ended ≡ false
    → OnOk r (new.scanner.pending ≡ pending (l.scanner.pending ++ piece))
    → TakesFrames opened.conversion link (payloads (final_frames (l.scanner.pending ++ piece))) r conversion l.newest new.newest o o'
    → FeedsLink old link piece r (converter conversion (set opened.links link new)) o o'
feeds-link {T} {opened} {old} {conversion} {link} {piece} {l} {o} {o'} new (Ok x) seen there unended still waits t =
    subst (λ (s : ConverterView). FeedsLink {T = T} s link piece (Ok x) (converter conversion (set opened.links link new)) o o') seen
    (record { ok = feeds there unended t.going still waits t.ok; err = tt })
feeds-link {T} {opened} {old} {conversion} {link} {piece} {l} {o} {o'} new (Err f) seen there unended still waits t =
    subst (λ (s : ConverterView). FeedsLink {T = T} s link piece (Err f) (converter conversion (set opened.links link new)) o o') seen
    (record { ok = tt; err = λ is. feeds-part piece there unended t.err })

pub closes-link : {T : Type 0} {opened old : ConverterView} {conversion : ConversionView} {link : ℕ} {l : LinkState} {o o' : Written} (new : LinkState) (r : Result T ConvertFault)
    → opened ≡ old → slice_get opened.links link ≡ Some l → l.scanner.ended ≡ false → new.scanner.ended ≡ true
    → TakesFrames opened.conversion link (payloads (frames l.scanner.pending)) r conversion l.newest new.newest o o'
    → EndsLink old link r (converter conversion (set opened.links link new)) o o'
closes-link {T} {opened} {old} {conversion} {link} {l} {o} {o'} new (Ok x) seen there unended ended t =
    subst (λ (s : ConverterView). EndsLink {T = T} s link (Ok x) (converter conversion (set opened.links link new)) o o') seen
    (record { ok = closes new there unended t.going ended t.ok; err = tt })
closes-link {T} {opened} {old} {conversion} {link} {l} {o} {o'} new (Err f) seen there unended ended t =
    subst (λ (s : ConverterView). EndsLink {T = T} s link (Err f) (converter conversion (set opened.links link new)) o o') seen
    (record { ok = tt; err = λ is. closes-part there unended t.err })

pub leaves-link : {T : Type 0} {opened old : ConverterView} {conversion : ConversionView} {link : ℕ} {found : List (List ℕ)} {newest newest' : Option ℕ} {o o' : Written} (new : LinkState) (r : Result T ConvertFault)
    → opened ≡ old → All (λ (l : LinkState). length l.scanner.pending ≤ 1029) opened.links → HoldsArrivals opened.conversion.setup opened.conversion.collector → length new.scanner.pending ≤ 1029
    → TakesFrames opened.conversion link found r conversion newest newest' o o' → LeavesConverter old link r (converter conversion (set opened.links link new))
leaves-link {T} {opened} {old} {conversion} {link} new r seen all held short t =
    let k = t.keeps in
    subst (λ (s : ConverterView). LeavesConverter s link r (converter conversion (set opened.links link new))) seen
    (record {
      going = t.going;
      halts = if_err-map r IsFrameFault (λ stops. stops) t.halts;
      fault = λ none. t.fault;
      same_setup = k.same_setup;
      as_many = length-set opened.links link new;
      bounds = bounded-after conversion opened.links link new all short k.few (k.held held);
    })
