-- Calls of a converter, one after another, and its end.
use Rattle.std.proofs.Common.{◌≡◌, ℕ, zero, suc, inl, inr, ◌⊎◌, Bool, false, List, [], ◌∷◌, length, Option, None, Some, refl, sym, ap, subst, ◌∙◌}
use Rattle.std.proofs.lemmas.Bool.{cases_Bool}
use Rattle.std.proofs.lemmas.List.{length-replicate}
use Rattle.std.specs.Prelude.{slice_get, if◌then◌else◌}
use Rattle.rtk_frame.specs.Stream.{with_more}
use Rattle.rtk_frame.proofs.PublicLaws.{with_more-nil}
use Rattle.rtk_convert.specs.declared.fault.ConvertFault.{ConvertFault}
use Rattle.rtk_convert.specs.declared.fault.ConvertFault.TheVariants.{NoLink, LinkClosed}
use Rattle.rtk_convert.specs.declared.link_state.LinkState.{LinkState}
use Rattle.rtk_convert.specs.CallLaws.{Call, Feed, Close, IsAfterCall, CallsComeTo, IsRefused, IsAnswered, AreAnswered, CallsKeepPromise, CallsWriteKept}
use Rattle.rtk_convert.specs.Converter.{ConverterView, RepresentLinks, link_refusal, refusal, RepresentsHistory, WritesOn, FinishesConverterAs, IsAfterClosingAll}
use Rattle.rtk_convert.specs.FileOfArrivals.{kept_file, file_so_far}
use Rattle.rtk_convert.specs.FrameClass.{Found, arrivals}
use Rattle.rtk_convert.specs.Finish.{report_of}
use Rattle.rtk_convert.specs.History.{History, LinkPast, IsOpen, IsAfterFeed, IsAfterClose, new_history}
use Rattle.rtk_convert.specs.Report.{lines}
use Rattle.rtk_setup.specs.Setup.{SetupView}
use Rattle.rtk_convert.specs.Writing.{Written}
use Rattle.rtk_convert.proofs.HeadlineLemmas.{headline-of, kept-of}
use Rattle.rtk_convert.proofs.ReadLemmas.{open-goes}
use Rattle.rtk_convert.proofs.RunLemmas.{length-with_piece, length-with_closed, so_far-nothing, written-on}

-- ---- a call is refused exactly if its link is not open

if_ended : Bool → Option ConvertFault
if_ended b = if b then Some LinkClosed else None

goes-link : (ls : List LinkState) (ps : List LinkPast) (n : ℕ) (found : List Found) (link : ℕ) → RepresentLinks ls ps n found
    → link_refusal (slice_get ls link) ≡ None → (fed : List ℕ) × (slice_get ps link ≡ Some (record { fed = fed; is_closed = false }))
unfolding if_ended
goes-link [] [] n found link are is = absurd (cc)
goes-link [] (p ∷ ps) n found link are is = absurd are
goes-link (l ∷ ls) [] n found link are is = absurd are
goes-link (l ∷ ls) (p ∷ ps) n found zero are is = elim (cases_Bool l.scanner.ended) [
  | inl ended ↦ absurd (let f : Some LinkClosed ≡ None = sym (ap if_ended ended) ∙ is in cc)
  | inr going ↦ (p.fed, ap (λ b. Some (record { fed = p.fed; is_closed = b })) (sym are.0.closed ∙ going))
]
goes-link (l ∷ ls) (p ∷ ps) n found (suc link) are is = goes-link ls ps (suc n) found link are.1 is

goes-open : (c : ConverterView) (h : History) (link : ℕ) → RepresentsHistory c h → refusal c link ≡ None → IsOpen h link
goes-open c h link r e =
    let f : link_refusal (slice_get c.links link) ≡ None = rw r.going at e in
    goes-link c.links h.links 0 h.found link r.links f

refused-closed : (c : ConverterView) (h : History) (link : ℕ) (fault : ConvertFault) → RepresentsHistory c h → refusal c link ≡ Some fault → IsOpen h link → ⊥
refused-closed c h link fault r e o = let f = open-goes c h link r o in let g : None ≡ Some fault = sym f ∙ e in cc

not-open : (c : ConverterView) (h : History) (link : ℕ) → RepresentsHistory c h → (refusal c link ≡ Some NoLink) ⊎ (refusal c link ≡ Some LinkClosed) → IsOpen h link → ⊥
not-open c h link r (inl e) = refused-closed c h link NoLink r e
not-open c h link r (inr e) = refused-closed c h link LinkClosed r e

-- ---- how many links there are

length-call : (s : SetupView) (h : History) (call : Call) (next : History) → IsAfterCall s h call next → length next.links ≡ length h.links
length-call s h (Feed link piece) next (inl p) = ap length p.1.links ∙ length-with_piece link piece h.links
length-call s h (Feed link piece) next (inr p) = ap (λ (x : History). length x.links) p.1
length-call s h (Close link) next (inl p) = ap length p.1.links ∙ length-with_closed link h.links
length-call s h (Close link) next (inr p) = ap (λ (x : History). length x.links) p.1

length-calls : (s : SetupView) (links : ℕ) (calls : List Call) (h : History) → CallsComeTo s links calls h → length h.links ≡ links
length-calls s links [] h p = ap (λ (x : History). length x.links) p ∙ length-replicate links (record { fed = []; is_closed = false })
length-calls s links (c ∷ before) h p = length-call s p.0 c h p.2 ∙ length-calls s links before p.0 p.1

-- ---- what calls come to

pub record HasCome (s : SetupView) (links : ℕ) (calls : List Call) (now : ConverterView) (o0 o1 : Written) : Type 0 where
  pub history : History
  pub come_to : CallsComeTo s links calls history
  pub represents : RepresentsHistory now history
  pub setup : now.conversion.setup ≡ s
  pub out_is : o1.file ≡ with_more o0.file (file_so_far s (arrivals history.found))
  pub log_is : o1.report ≡ with_more o0.report (lines s history.found)

-- one more that is taken
taken : (s : SetupView) (links : ℕ) (call : Call) (before : List Call) (mid now : ConverterView) (o0 o1 o2 : Written) → (p : HasCome s links before mid o0 o1)
    → now.conversion.setup ≡ mid.conversion.setup → (next : History) → IsAfterCall s p.history call next → RepresentsHistory now next
    → WritesOn s p.history.found next.found o1 o2 → HasCome s links (call ∷ before) now o0 o2
taken s links call before mid now o0 o1 o2 p same next after represents w = record {
  history = next;
  come_to = (p.history, p.come_to, after);
  represents = represents;
  setup = same ∙ p.setup;
  out_is = written-on o0.file o1.file o2.file (file_so_far s (arrivals p.history.found)) (file_so_far s (arrivals next.found)) p.out_is w.out;
  log_is = written-on o0.report o1.report o2.report (lines s p.history.found) (lines s next.found) p.log_is w.log;
}

-- one more that is refused
refused : (s : SetupView) (links : ℕ) (call : Call) (before : List Call) (link : ℕ) (mid now : ConverterView) (o0 o1 o2 : Written) → (p : HasCome s links before mid o0 o1)
    → IsRefused mid link now o1 o2 → IsAfterCall s p.history call p.history → HasCome s links (call ∷ before) now o0 o2
refused s links call before link mid now o0 o1 o2 p q after = record {
  history = p.history;
  come_to = (p.history, p.come_to, after);
  represents = subst (λ (c : ConverterView). RepresentsHistory c p.history) (sym q.same) p.represents;
  setup = ap (λ (c : ConverterView). c.conversion.setup) q.same ∙ p.setup;
  out_is = ap (λ (o : Written). o.file) q.written ∙ p.out_is;
  log_is = ap (λ (o : Written). o.report) q.written ∙ p.log_is;
}

one-more : (s : SetupView) (links : ℕ) (call : Call) (before : List Call) (mid now : ConverterView) (o0 o1 o2 : Written) → HasCome s links before mid o0 o1
    → now.conversion.setup ≡ mid.conversion.setup → IsAnswered mid call now o1 o2 → HasCome s links (call ∷ before) now o0 o2
one-more s links (Feed link piece) before mid now o0 o1 o2 p same (inl q) =
    let fed = subst (λ (t : SetupView). (next : History) × IsAfterFeed t p.history link piece next × RepresentsHistory now next × WritesOn t p.history.found next.found o1 o2) p.setup (q.1 p.history p.represents) in
    taken s links (Feed link piece) before mid now o0 o1 o2 p same fed.0 (inl (goes-open mid p.history link p.represents q.0, fed.1)) fed.2 fed.3
one-more s links (Feed link piece) before mid now o0 o1 o2 p same (inr q) =
    refused s links (Feed link piece) before link mid now o0 o1 o2 p q (inr (not-open mid p.history link p.represents q.why, refl))
one-more s links (Close link) before mid now o0 o1 o2 p same (inl q) =
    let closed = subst (λ (t : SetupView). (next : History) × IsAfterClose t p.history link next × RepresentsHistory now next × WritesOn t p.history.found next.found o1 o2) p.setup (q.1 p.history p.represents) in
    taken s links (Close link) before mid now o0 o1 o2 p same closed.0 (inl (goes-open mid p.history link p.represents q.0, closed.1)) closed.2 closed.3
one-more s links (Close link) before mid now o0 o1 o2 p same (inr q) =
    refused s links (Close link) before link mid now o0 o1 o2 p q (inr (not-open mid p.history link p.represents q.why, refl))

come : (s : SetupView) (links : ℕ) (first : ConverterView) (calls : List Call) (now : ConverterView) (o0 o1 : Written) → RepresentsHistory first (new_history links) → first.conversion.setup ≡ s
    → AreAnswered first calls now o0 o1 → HasCome s links calls now o0 o1
come s links first [] now o0 o1 r e p = record {
  history = new_history links;
  come_to = refl;
  represents = subst (λ (c : ConverterView). RepresentsHistory c (new_history links)) (sym p.0) r;
  setup = ap (λ (c : ConverterView). c.conversion.setup) p.0 ∙ e;
  out_is = ap (λ (o : Written). o.file) p.1 ∙ sym (with_more-nil o0.file) ∙ ap (with_more o0.file) (sym (so_far-nothing s));
  log_is = ap (λ (o : Written). o.report) p.1 ∙ sym (with_more-nil o0.report);
}
come s links first (call ∷ before) now o0 o1 r e p =
    one-more s links call before p.0 now o0 p.1 o1 (come s links first before p.0 o0 p.1 r e p.2) p.4 p.3

pub calls-write-kept : CallsWriteKept
calls-write-kept s links calls counts o0 o2 p =
    let c = come s links p.first calls p.now o0 p.written_mid p.is_new p.setup p.answered in
    let end = subst (λ (t : SetupView). (last : History) × FinishesConverterAs t c.history last counts p.written_mid o2) c.setup (p.ended c.history c.represents) in
    let few = length-calls s links calls c.history c.come_to in (
      end.0.found,
      (c.history, end.0, c.come_to, subst (λ (n : ℕ). IsAfterClosingAll s c.history n end.0) few end.1.closed, refl),
      kept-of s end.0.found counts o0 o2
          (written-on o0.file p.written_mid.file o2.file (file_so_far s (arrivals c.history.found)) (kept_file s (arrivals end.0.found)) c.out_is end.1.out)
          (written-on o0.report p.written_mid.report o2.report (lines s c.history.found) (report_of s end.0.found) c.log_is end.1.log)
          end.1.counts_are,
    )

pub calls-keep-promise : CallsKeepPromise
calls-keep-promise s links calls counts o0 o2 p =
    let w = calls-write-kept s links calls counts o0 o2 p in
    (w.0, w.1, headline-of s w.0 o0 o2 w.2.out w.2.log)
