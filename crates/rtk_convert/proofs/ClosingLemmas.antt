-- The links are closed, one after another, and the converter ends.
use Rattle.std.proofs.Common.{◌≡◌, ℕ, suc, true, false, List, ◌++◌, Option, None, Some, Result, Ok, Err, length, inl, inr, refl, ap, append_assoc, sym, subst, ◌∙◌}
use Rattle.std.specs.Prelude.{is_some}
use Rattle.rtk_frame.specs.Stream.{with_more}
use Rattle.rtk_frame.proofs.PublicLaws.{with_more-with_more}
use Rattle.rtk_convert.specs.Converter.{ConverterView, RepresentsHistory, WritesOn, WritesInto, BreaksOffAfter, BreaksOffAt, ClosesLink, ClosesLinkInPart, BreaksOffClosing, IsAfterClosingAll, FinishesConverter, FinishesConverterInPart, EndsConverter, refusal}
use Rattle.rtk_convert.specs.Steps.AllLinks.{ClosesAllLinks, ClosesAllLinksInPart, ClosesLinks}
use Rattle.rtk_convert.specs.FileOfArrivals.{kept_file, file_so_far}
use Rattle.rtk_convert.specs.FrameClass.{Found, arrivals}
use Rattle.rtk_convert.specs.Finish.{all_counts, report_of}
use Rattle.rtk_convert.specs.Steps.Closing.{FinishesConversion, FinishesConversionInPart, EndsConversion}
use Rattle.rtk_convert.specs.History.{History, IsAfterClose, fed_on, found_by_close}
use Rattle.rtk_convert.specs.Report.{lines}
use Rattle.rtk_setup.specs.Setup.{SetupView}
use Rattle.rtk_convert.specs.Writing.{Written, WritesRest}
use Rattle.rtk_convert.specs.Steps.WritingInPart.{WritesPartOfRest}
use Rattle.rtk_convert.specs.Conversion.{ConversionView}
use Rattle.rtk_setup.specs.declared.counts.Counts.{Counts}
use Rattle.rtk_convert.specs.declared.fault.ConvertFault.{ConvertFault}
use Rattle.rtk_convert.proofs.GatheringLemmas.{writes-nothing, goes-on, writes-into}
use Rattle.rtk_convert.proofs.ConverterLemmas.{are-many, accepted-open, open-accepted}
use Rattle.rtk_convert.proofs.WritingLemmas.{writes-on}

into-on : (a b c : Option (List ℕ)) (w x y z : List ℕ) → WritesRest a b w x → WritesInto b c x y z → WritesInto a c w y z
into-on a b c w x y z p q = (
  p.0 ++ q.0,
  q.1,
  q.2,
  q.3 ∙ ap (λ t. t ++ q.0) p.1 ∙ append_assoc w p.0 q.0,
  q.4,
  q.5 ∙ ap (λ t. with_more t (q.0 ++ q.1)) p.2 ∙ with_more-with_more a p.0 (q.0 ++ q.1) ∙ ap (with_more a) (sym (append_assoc p.0 q.0 q.1)),
)

-- a call breaks off after all this was written
pub breaks-after : (s : SetupView) (link : ℕ) (payloads : List (List ℕ)) (first before : List Found) (o0 o1 o2 : Written)
    → WritesOn s first before o0 o1 → BreaksOffAt s link payloads before o1 o2 → BreaksOffAfter s link payloads first before o0 o2
breaks-after s link payloads first before o0 o1 o2 p b = record {
  done = b.done;
  payload = b.payload;
  left = b.left;
  split = b.split;
  found = b.found;
  finds = b.finds;
  class = b.class;
  comes = b.comes;
  out = into-on o0.file o1.file o2.file _ _ _ _ p.out b.out;
  log = into-on o0.report o1.report o2.report _ _ _ _ p.log b.log;
}

-- a call that is refused is not accepted
pub some-refused : (r o : Option ConvertFault) → r ≡ o → is_some r ≡ true → o ≡ None → ⊥
some-refused None o e some none = cc
some-refused (Some fault) o e some none = cc

pub none-given : (r o : Option ConvertFault) → r ≡ o → is_some r ≡ false → o ≡ None
none-given None o e none = sym e
none-given (Some fault) o e none = absurd cc

-- this number of links were closed
pub record ClosesSome (old : ConverterView) (h : History) (count : ℕ) (now : ConverterView) (o o' : Written) : Type 0 where
  pub mid : History
  pub closed : IsAfterClosingAll old.conversion.setup h count mid
  pub represents : RepresentsHistory now mid
  pub writes : WritesOn old.conversion.setup h.found mid.found o o'

pub closes-none : (old : ConverterView) (h : History) (o : Written) → RepresentsHistory old h → ClosesSome old h 0 old o o
closes-none old h o r = record {
  mid = h;
  closed = refl;
  represents = r;
  writes = writes-nothing old.conversion.setup h.found o;
}

-- the next is closed already
pub closes-past : {old now : ConverterView} {h : History} {i : ℕ} {o o' : Written} → (refusal now i ≡ None → ⊥)
    → ClosesSome old h i now o o' → ClosesSome old h (suc i) now o o'
closes-past {old} {now} {h} {i} {o} {o'} refused c = record {
  mid = c.mid;
  closed = (c.mid, c.closed, inr (λ unended. refused (open-accepted now c.mid i c.represents unended), refl));
  represents = c.represents;
  writes = c.writes;
}

-- the next is closed now
pub closes-next : {old now new : ConverterView} {h : History} {i : ℕ} {o o1 o2 : Written} → now.conversion.setup ≡ old.conversion.setup → refusal now i ≡ None
    → ClosesSome old h i now o o1 → ClosesLink now i new o1 o2 → ClosesSome old h (suc i) new o o2
closes-next {old} {now} {new} {h} {i} {o} {o1} {o2} same_setup none c closes =
    let (next, after, represents, writes) = closes c.mid c.represents in
    record {
      mid = next;
      closed = (c.mid, c.closed, inl (accepted-open now c.mid i c.represents none, subst (λ (s : SetupView). IsAfterClose s c.mid i next) same_setup after));
      represents = represents;
      writes = goes-on old.conversion.setup h.found c.mid.found next.found o o1 o2 c.writes (subst (λ (s : SetupView). WritesOn s c.mid.found next.found o1 o2) same_setup writes);
    }

-- its closing breaks off
pub closes-off : {old now : ConverterView} {h : History} {i : ℕ} {o o1 o2 : Written} → now.conversion.setup ≡ old.conversion.setup → refusal now i ≡ None
    → ClosesSome old h i now o o1 → ClosesLinkInPart now i o1 o2 → BreaksOffClosing old.conversion.setup h i o o2
closes-off {old} {now} {h} {i} {o} {o1} {o2} same_setup none c part = record {
  mid = c.mid;
  closed = c.closed;
  is_open = accepted-open now c.mid i c.represents none;
  breaks = breaks-after old.conversion.setup i (found_by_close (fed_on i c.mid.links)) h.found c.mid.found o o1 o2 c.writes
      (subst (λ (s : SetupView). BreaksOffAt s i (found_by_close (fed_on i c.mid.links)) c.mid.found o1 o2) same_setup (part c.mid c.represents));
}

-- all are closed
pub closes-all : {old now : ConverterView} {count : ℕ} {o o' : Written} → count ≡ length old.links
    → ((h : History) → RepresentsHistory old h → ClosesSome old h count now o o') → ClosesAllLinks old now o o'
closes-all {old} {now} {count} {o} {o'} all c = λ h r.
    let some = c h r in
    let many : count ≡ length h.links = all ∙ are-many old.links h.links 0 h.found r.links in
    (some.mid, subst (λ (n : ℕ). IsAfterClosingAll old.conversion.setup h n some.mid) many some.closed, some.represents, some.writes)

-- ---- the end

pub ends : {old closed : ConverterView} {counts : Counts} {o o1 o2 : Written} → closed.conversion.setup ≡ old.conversion.setup
    → ClosesAllLinks old closed o o1 → FinishesConversion closed.conversion counts o1 o2 → FinishesConverter old counts o o2
ends {old} {closed} {counts} {o} {o1} {o2} same_setup all finishes = λ h r.
    let (last, after, represents, writes) = all h r in
    let f = finishes last.found represents.found in (
      last,
      record {
        closed = after;
        counts_are = f.counts_are ∙ ap (λ (s : SetupView). all_counts s last.found) same_setup;
        out = writes-on o.file o1.file o2.file _ _ _ writes.out (subst (λ (s : SetupView). WritesRest o1.file o2.file (file_so_far s (arrivals last.found)) (kept_file s (arrivals last.found))) same_setup f.out);
        log = writes-on o.report o1.report o2.report _ _ _ writes.log (subst (λ (s : SetupView). WritesRest o1.report o2.report (lines s last.found) (report_of s last.found)) same_setup f.log);
      },
    )

pub ends-closing : (old : ConverterView) (o o' : Written) → ClosesAllLinksInPart old o o' → FinishesConverterInPart old o o'
ends-closing old o o' part = λ h r. inl (part h r)

pub ends-part : {old closed : ConverterView} {o o1 o2 : Written} → closed.conversion.setup ≡ old.conversion.setup
    → ClosesAllLinks old closed o o1 → FinishesConversionInPart closed.conversion o1 o2 → FinishesConverterInPart old o o2
ends-part {old} {closed} {o} {o1} {o2} same_setup all part = λ h r.
    let (last, after, represents, writes) = all h r in
    let f = part last.found represents.found in
    inr (record {
      last = last;
      closed = after;
      out = writes-into o.file o1.file o2.file _ _ _ writes.out (subst (λ (s : SetupView). WritesPartOfRest o1.file o2.file (file_so_far s (arrivals last.found)) (kept_file s (arrivals last.found))) same_setup f.out);
      log = writes-into o.report o1.report o2.report _ _ _ writes.log (subst (λ (s : SetupView). WritesPartOfRest o1.report o2.report (lines s last.found) (report_of s last.found)) same_setup f.log);
      counts_last = elim f.counts_last [
        | inl same ↦ inl (subst (λ (r : Option (List ℕ)). WritesRest o.report r (lines old.conversion.setup h.found) (lines old.conversion.setup last.found)) (sym same) writes.log)
        | inr whole ↦ inr (writes-on o.file o1.file o2.file _ _ _ writes.out (subst (λ (s : SetupView). WritesRest o1.file o2.file (file_so_far s (arrivals last.found)) (kept_file s (arrivals last.found))) same_setup whole))
      ];
    })

-- the links are closed, and then the conversion ends, or the end breaks off
pub ends-all : {T : Type 0} {answer : T} (old closed : ConverterView) {conversion : ConversionView} {o o1 o2 : Written} (r : Result Counts ConvertFault)
    → old.conversion.stopped ≡ false → conversion ≡ closed.conversion → ClosesLinks old (Ok answer) closed o o1 → EndsConversion conversion r o1 o2 → EndsConverter old r o o2
ends-all {T} {answer} old closed {conversion} {o} {o1} {o2} (Ok counts) going seen all e = record {
  ok = ends all.same_setup all.ok (subst (λ (x : ConversionView). FinishesConversion x counts o1 o2) seen e.ok);
  err = tt;
  stopped = λ stops. absurd cc;
  fault = λ _. tt;
}
ends-all {T} {answer} old closed {conversion} {o} {o1} {o2} (Err f) going seen all e = record {
  ok = tt;
  err = λ is. ends-part all.same_setup all.ok (subst (λ (x : ConversionView). FinishesConversionInPart x o1 o2) seen e.err);
  stopped = λ stops. absurd cc;
  fault = λ _. e.fault;
}

-- a link breaks off as it is closed
pub ends-off : {T : Type 0} (old closed : ConverterView) {fault : ConvertFault} {o o' : Written} → old.conversion.stopped ≡ false → ClosesLinks {T = T} old (Err fault) closed o o' → EndsConverter old (Err fault) o o'
ends-off {T} old closed {fault} {o} {o'} going off = record {
  ok = tt;
  err = λ is. ends-closing old o o' off.err;
  stopped = λ stops. absurd cc;
  fault = λ _. off.fault;
}
