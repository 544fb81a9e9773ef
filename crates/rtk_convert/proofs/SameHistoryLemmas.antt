-- A converter has two histories: a call makes the like of both.
use Rattle.std.proofs.Common.{◌≡◌, ℕ, zero, suc, ◌+◌, ◌<◌, ◌≤◌, Bool, false, if◌then◌else◌, List, [], ◌∷◌, ◌++◌, length, take, None, Some, refl, ap, sym, ◌∙◌, subst, arith, inl, inr}
use Rattle.std.specs.Prelude.{slice_get, option_map}
use Rattle.rtk_frame.specs.Frames.{final_frames, frames, payloads, pending}
use Rattle.rtk_frame.proofs.PublicLaws.{pending_cut}
use Rattle.rtk_obs.specs.declared.any_code.AnyCode.{AnyCode}
use Rattle.rtk_collect.specs.Signals.{signals}
use Rattle.rtk_message.specs.declared.any_message.AnyMessage.{AnyMessage as Message}
use Rattle.rtk_obs.specs.declared.signal_cells.SignalEntry.{SignalEntry}
use Rattle.rtk_collect.specs.Accepted.{station, kept, closed}
use Rattle.rtk_collect.specs.Arrival.{Arrival, message_of_1005, message_of_1006}
use Rattle.rtk_collect.specs.Collector.{CollectorView, RepresentsArrivals}
use Rattle.rtk_collect.specs.EpochSet.{EpochSetView}
use Rattle.rtk_collect.specs.Laws.{KeptAreGreatest, ExcusedIsKept}
use Rattle.rtk_convert.specs.declared.fault.ConvertFault.TheVariants.{LinkClosed, Stopped}
use Rattle.rtk_convert.specs.declared.link_state.LinkState.{LinkState}
use Rattle.rtk_convert.specs.CallLaws.{Call, Feed, Close, IsAfterCall}
use Rattle.rtk_convert.specs.ClosedEpochs.{ClosedEpochsView, HasClosed}
use Rattle.rtk_convert.specs.Conversion.{ConversionView, HoldsKept, HasRemarks, RepresentsFound}
use Rattle.rtk_convert.specs.Converter.{ConverterView, RepresentLinks, link_refusal, IsAfterClosing, IsAfterClosingAll}
use Rattle.rtk_convert.specs.ConverterLaws.{refusal_by, LinkDecidesRefusal, LinkHoldsNewest, WaitingDecidesFrames, HasHistory, HeldDecidesCall, HeldDecidesEnd}
use Rattle.rtk_convert.specs.FileOfArrivals.{kept_file, file_so_far}
use Rattle.rtk_convert.specs.Finish.{report_of}
use Rattle.rtk_convert.specs.FrameClass.{Found, arrivals}
use Rattle.rtk_convert.specs.History.{LinkPast, History, Finds, fed_on, with_piece, with_closed, IsOpen, IsAfterFeed, IsAfterClose, found_by_piece, found_by_close, newest_on}
use Rattle.rtk_convert.specs.Report.{lines, frame_counts}
use Rattle.rtk_setup.specs.Setup.{SetupView, cells_by}
use Rattle.rtk_convert.proofs.ConverterLemmas.{link-at, found-pending, found-left}
use Rattle.rtk_convert.proofs.RunLemmas.{length-with_piece, length-with_closed}
use Rattle.rtk_convert.proofs.SameFoundLemmas.{rest-alike, alike-on, SameClosed, SameFound, AddsAlike, adds-none, finds-alike, counts-same, file-ends-alike, report-ends-alike}
use Rattle.rtk_convert.proofs.SameWindowLemmas.{SameWindow}

-- ---- the answers

refused-by : (ls : List LinkState) (ps : List LinkPast) (n link : ℕ) (found : List Found) → RepresentLinks ls ps n found → link_refusal (slice_get ls link) ≡ refusal_by (slice_get ps link)
refused-by [] [] n link found are = refl
refused-by [] (p ∷ ps) n link found are = absurd are
refused-by (l ∷ ls) [] n link found are = absurd are
refused-by (l ∷ ls) (p ∷ ps) n zero found are = ap (λ (b : Bool). if b then Some LinkClosed else None) are.0.closed
refused-by (l ∷ ls) (p ∷ ps) n (suc link) found are = refused-by ls ps (suc n) link found are.1

pub link-decides-refusal : LinkDecidesRefusal
link-decides-refusal c h link r =
    ap (λ (b : Bool). if b then Some Stopped else link_refusal (slice_get c.links link)) r.going ∙ refused-by c.links h.links 0 link h.found r.links

pub link-holds-newest : LinkHoldsNewest
link-holds-newest c h link l r there = let at = link-at link link 0 l c.links h.links h.found r.links there (omega arith) in sym at.is.newest

pub waiting-decides-frames : WaitingDecidesFrames
waiting-decides-frames c h link l r there unended =
    let at = link-at link link 0 l c.links h.links h.found r.links there (omega arith) in
    let waits : pending (fed_on link h.links) ≡ l.scanner.pending = ap pending at.fed ∙ sym (at.is.waiting (sym at.is.closed ∙ unended)) in (
      λ piece. found-pending (fed_on link h.links) piece ∙ ap (λ t. payloads (final_frames (t ++ piece))) waits,
      found-left (fed_on link h.links) ∙ ap (λ t. payloads (frames t)) waits,
    )

-- ---- the same links

record SamePast (p q : LinkPast) : Type 0 where
  pub closed : p.is_closed ≡ q.is_closed
  pub waiting : p.is_closed ≡ false → pending p.fed ≡ pending q.fed

abbrev SamePasts : List LinkPast → List LinkPast → Type 0
SamePasts [] [] = Unit {0}
SamePasts (p ∷ ps) (q ∷ qs) = SamePast p q × SamePasts ps qs
SamePasts [] (q ∷ qs) = ⊥
SamePasts (p ∷ ps) [] = ⊥

pasts-same : (ls : List LinkState) (ps qs : List LinkPast) (n : ℕ) (first second : List Found) → RepresentLinks ls ps n first → RepresentLinks ls qs n second → SamePasts ps qs
pasts-same [] [] [] n first second a b = tt
pasts-same [] [] (q ∷ qs) n first second a b = absurd b
pasts-same [] (p ∷ ps) qs n first second a b = absurd a
pasts-same (l ∷ ls) [] qs n first second a b = absurd a
pasts-same (l ∷ ls) (p ∷ ps) [] n first second a b = absurd b
pasts-same (l ∷ ls) (p ∷ ps) (q ∷ qs) n first second a b = (
  record {
    closed = sym a.0.closed ∙ b.0.closed;
    waiting = λ open_first. sym (a.0.waiting open_first) ∙ b.0.waiting (sym b.0.closed ∙ a.0.closed ∙ open_first);
  },
  pasts-same ls ps qs (suc n) first second a.1 b.1,
)

newest-same : (ls : List LinkState) (ps qs : List LinkPast) (n k at : ℕ) (first second : List Found) → RepresentLinks ls ps n first → RepresentLinks ls qs n second → k < length ps → at ≡ n + k
    → newest_on at first ≡ newest_on at second
newest-same [] [] qs n k at first second a b lt is = absurd (omega arith)
newest-same [] (p ∷ ps) qs n k at first second a b lt is = absurd a
newest-same (l ∷ ls) [] qs n k at first second a b lt is = absurd a
newest-same (l ∷ ls) (p ∷ ps) [] n k at first second a b lt is = absurd b
newest-same (l ∷ ls) (p ∷ ps) (q ∷ qs) n zero at first second a b lt is =
    let here : at ≡ n = omega arith in
    rw here (sym a.0.newest ∙ b.0.newest)
newest-same (l ∷ ls) (p ∷ ps) (q ∷ qs) n (suc k) at first second a b lt is = newest-same ls ps qs (suc n) k at first second a.1 b.1 (omega arith) (omega arith)

-- a link that represents the one past represents the other
links-too : (ls : List LinkState) (ps qs : List LinkPast) (n : ℕ) (first second : List Found) → SamePasts ps qs → ((k : ℕ) → n ≤ k → k < n + length ps → newest_on k first ≡ newest_on k second)
    → RepresentLinks ls ps n first → RepresentLinks ls qs n second
links-too [] [] [] n first second same newest a = tt
links-too [] [] (q ∷ qs) n first second same newest a = absurd same
links-too [] (p ∷ ps) qs n first second same newest a = absurd a
links-too (l ∷ ls) [] qs n first second same newest a = absurd a
links-too (l ∷ ls) (p ∷ ps) [] n first second same newest a = absurd same
links-too (l ∷ ls) (p ∷ ps) (q ∷ qs) n first second same newest a = (
  record {
    closed = a.0.closed ∙ same.0.closed;
    waiting = λ open_second. let open_first : p.is_closed ≡ false = same.0.closed ∙ open_second in a.0.waiting open_first ∙ same.0.waiting open_first;
    newest = a.0.newest ∙ newest n (omega arith) (omega arith);
  },
  links-too ls ps qs (suc n) first second same.1 (λ k from below. newest k (omega arith) (omega arith)) a.1,
)

pieces-same : (k : ℕ) (piece : List ℕ) (ps qs : List LinkPast) → SamePasts ps qs → SamePasts (with_piece k piece ps) (with_piece k piece qs)
pieces-same k piece [] [] same = tt
pieces-same k piece [] (q ∷ qs) same = absurd same
pieces-same k piece (p ∷ ps) [] same = absurd same
pieces-same zero piece (p ∷ ps) (q ∷ qs) same = (
  record {
    closed = same.0.closed;
    waiting = λ is_open. pending_cut p.fed piece ∙ ap (λ t. pending (t ++ piece)) (same.0.waiting is_open) ∙ sym (pending_cut q.fed piece);
  },
  same.1,
)
pieces-same (suc k) piece (p ∷ ps) (q ∷ qs) same = (same.0, pieces-same k piece ps qs same.1)

closes-same : (k : ℕ) (ps qs : List LinkPast) → SamePasts ps qs → SamePasts (with_closed k ps) (with_closed k qs)
closes-same k [] [] same = tt
closes-same k [] (q ∷ qs) same = absurd same
closes-same k (p ∷ ps) [] same = absurd same
closes-same zero (p ∷ ps) (q ∷ qs) same = (record { closed = refl; waiting = λ is_open. absurd cc }, same.1)
closes-same (suc k) (p ∷ ps) (q ∷ qs) same = (same.0, closes-same k ps qs same.1)

-- an open link is open in both, and the same bytes wait on it
record OpenAlike (k : ℕ) (ps qs : List LinkPast) : Type 0 where
  pub fed : List ℕ
  pub is_open : slice_get qs k ≡ Some (record { fed = fed; is_closed = false })
  pub waiting : pending (fed_on k ps) ≡ pending (fed_on k qs)

open-alike : (k : ℕ) (fed : List ℕ) (ps qs : List LinkPast) → SamePasts ps qs → slice_get ps k ≡ Some (record { fed = fed; is_closed = false }) → OpenAlike k ps qs
open-alike k fed [] qs same there = absurd cc
open-alike k fed (p ∷ ps) [] same there = absurd same
open-alike zero fed (p ∷ ps) (q ∷ qs) same there =
    let is : p ≡ record { fed = fed; is_closed = false } = cc in
    let first_open : p.is_closed ≡ false = ap (λ (x : LinkPast). x.is_closed) is in
    record {
      fed = q.fed;
      is_open = ap (λ (b : Bool). Some (record q { is_closed = b })) (sym same.0.closed ∙ first_open);
      waiting = same.0.waiting first_open;
    }
open-alike (suc k) fed (p ∷ ps) (q ∷ qs) same there = let rest = open-alike k fed ps qs same.1 there in record { fed = rest.fed; is_open = rest.is_open; waiting = rest.waiting }

same-back : (ps qs : List LinkPast) → SamePasts ps qs → SamePasts qs ps
same-back [] [] same = tt
same-back [] (q ∷ qs) same = absurd same
same-back (p ∷ ps) [] same = absurd same
same-back (p ∷ ps) (q ∷ qs) same = (
  record { closed = sym same.0.closed; waiting = λ is_open. sym (same.0.waiting (same.0.closed ∙ is_open)) },
  same-back ps qs same.1,
)

length-same : (ps qs : List LinkPast) → SamePasts ps qs → length ps ≡ length qs
length-same [] [] same = refl
length-same [] (q ∷ qs) same = absurd same
length-same (p ∷ ps) [] same = absurd same
length-same (p ∷ ps) (q ∷ qs) same = ap suc (length-same ps qs same.1)

-- ---- the same history

-- a converter with this setup that has the one history has the other too
record SameHistory (s : SetupView) (h other : History) : Type 0 where
  pub pasts : SamePasts h.links other.links
  pub newest : (k : ℕ) → k < length h.links → newest_on k h.found ≡ newest_on k other.found
  pub found : SameFound s h.found other.found

window-same : (of : Message → List SignalEntry) (n : ℕ) (w : CollectorView SignalEntry) (first second : List Arrival) → w.places ≡ n → RepresentsArrivals signals of w first → RepresentsArrivals signals of w second → SameWindow of n first second
window-same of n w first second places a b =
    let A = subst (λ (k : ℕ). (w.sets ≡ take k (kept signals of k first)) × (option_map message_of_1005 w.arp1005 ≡ station k 1005 first) × (option_map message_of_1006 w.arp1006 ≡ station k 1006 first)) places (a.sets, a.arp1005, a.arp1006) in
    let B = subst (λ (k : ℕ). (w.sets ≡ take k (kept signals of k second)) × (option_map message_of_1005 w.arp1005 ≡ station k 1005 second) × (option_map message_of_1006 w.arp1006 ≡ station k 1006 second)) places (b.sets, b.arp1005, b.arp1006) in
    record { sets = sym A.0 ∙ B.0; arp1005 = sym A.1 ∙ B.1; arp1006 = sym A.2 ∙ B.2 }

window-too : (of : Message → List SignalEntry) (n : ℕ) (w : CollectorView SignalEntry) (first second : List Arrival) → w.places ≡ n → SameWindow of n first second → RepresentsArrivals signals of w first → RepresentsArrivals signals of w second
window-too of n w first second places same a =
    let here = subst (λ (k : ℕ). SameWindow of k first second) (sym places) same in
    record { sets = a.sets ∙ here.sets; arp1005 = a.arp1005 ∙ here.arp1005; arp1006 = a.arp1006 ∙ here.arp1006 }

closed-same : (doppler : Bool) (listed : List AnyCode) (c : ClosedEpochsView) (first second : List (EpochSetView SignalEntry)) → HasClosed c doppler listed first → HasClosed c doppler listed second → SameClosed doppler listed first second
closed-same doppler listed c first second a b = record {
  phases = λ satellite code is. sym (a.phases satellite code is) ∙ b.phases satellite code is;
  header = sym a.is_header_out ∙ b.is_header_out;
  count = sym a.count ∙ b.count;
}

closed-too : (doppler : Bool) (listed : List AnyCode) (c : ClosedEpochsView) (first second : List (EpochSetView SignalEntry)) → SameClosed doppler listed first second → HasClosed c doppler listed first → HasClosed c doppler listed second
closed-too doppler listed c first second same a = record {
  phases = λ satellite code is. a.phases satellite code is ∙ same.phases satellite code is;
  is_header_out = a.is_header_out ∙ same.header;
  count = a.count ∙ same.count;
}

found-same : (s : SetupView) (c : ConversionView) (first second : List Found) → c.setup ≡ s → c.collector.places ≡ s.window → RepresentsFound c first → RepresentsFound c second → SameFound s first second
found-same s c first second setup places a b =
    let of_setup = λ (found : List Found) (r : RepresentsFound c found).
    subst (λ (t : SetupView). HoldsKept t c.collector (arrivals found) × HasClosed c.closed_epochs t.head.doppler t.head.listed (closed signals (cells_by t) t.window (arrivals found)) × (c.counts ≡ frame_counts t found)
    × HasRemarks t c.remarks found) setup (r.kept, r.closed, r.counts, r.remarks) in
    let A = of_setup first a in
    let B = of_setup second b in
    record {
      taken = B.0.taken;
      window = window-same (cells_by s) s.window c.collector (arrivals first) (arrivals second) places A.0.window B.0.window;
      closed = closed-same s.head.doppler s.head.listed c.closed_epochs _ _ A.1 B.1;
      counts = sym A.2 ∙ B.2;
      remarks = (
        λ system. sym (A.3.0 system) ∙ B.3.0 system,
        λ slot is. sym (A.3.1 slot is) ∙ B.3.1 slot is,
        λ slot is. sym (A.3.2 slot is) ∙ B.3.2 slot is,
      );
    }

found-too : (s : SetupView) (c : ConversionView) (first second : List Found) → c.setup ≡ s → c.collector.places ≡ s.window → SameFound s first second → RepresentsFound c first → RepresentsFound c second
found-too s c first second setup places same a =
    let here = subst (λ (t : SetupView). SameFound t first second) (sym setup) same in
    record {
      kept = record { taken = here.taken; window = window-too (cells_by c.setup) c.setup.window c.collector (arrivals first) (arrivals second) (places ∙ ap (λ (t : SetupView). t.window) (sym setup)) here.window a.kept.window };
      closed = closed-too c.setup.head.doppler c.setup.head.listed c.closed_epochs _ _ here.closed a.closed;
      counts = a.counts ∙ here.counts;
      remarks = (
        λ system. a.remarks.0 system ∙ here.remarks.0 system,
        λ slot is. a.remarks.1 slot is ∙ here.remarks.1 slot is,
        λ slot is. a.remarks.2 slot is ∙ here.remarks.2 slot is,
      );
    }

history-same : (s : SetupView) (c : ConverterView) (h other : History) → HasHistory s c h → HasHistory s c other → SameHistory s h other
history-same s c h other a b = record {
  pasts = pasts-same c.links h.links other.links 0 h.found other.found a.represents.links b.represents.links;
  newest = λ k below. newest-same c.links h.links other.links 0 k k h.found other.found a.represents.links b.represents.links below (omega arith);
  found = found-same s c.conversion h.found other.found a.same_setup a.places a.represents.found b.represents.found;
}

history-too : (s : SetupView) (c : ConverterView) (h other : History) → SameHistory s h other → HasHistory s c h → HasHistory s c other
history-too s c h other same a = record {
  same_setup = a.same_setup;
  places = a.places;
  represents = record {
    going = a.represents.going;
    links = links-too c.links h.links other.links 0 h.found other.found same.pasts (λ k from below. same.newest k (omega arith)) a.represents.links;
    found = found-too s c.conversion h.found other.found a.same_setup a.places same.found a.represents.found;
  };
}

-- ---- a call

-- a history after which the same was added
record StepsAlike (s : SetupView) (h next other : History) (IsNext : History → Type 0) : Type 0 where
  pub last : History
  pub is_next : IsNext last
  pub same : SameHistory s next last
  pub adds : AddsAlike s h.found next.found other.found last.found

stays-alike : (s : SetupView) (h next other : History) (IsNext : History → Type 0) → next ≡ h → IsNext other → SameHistory s h other → StepsAlike s h next other IsNext
stays-alike s h next other IsNext is next_too same = record {
  last = other;
  is_next = next_too;
  same = subst (λ (x : History). SameHistory s x other) (sym is) same;
  adds = subst (λ (x : History). AddsAlike s h.found x.found other.found other.found) (sym is) (adds-none s h.found other.found same.found);
}

open-too : (s : SetupView) (h other : History) (link : ℕ) → SameHistory s h other → IsOpen h link → IsOpen other link
open-too s h other link same is_open = let at = open-alike link is_open.0 h.links other.links same.pasts is_open.1 in (at.fed, at.is_open)

closed-both : (s : SetupView) (h other : History) (link : ℕ) → SameHistory s h other → (IsOpen h link → ⊥) → IsOpen other link → ⊥
closed-both s h other link same closed_first is_open =
    let at = open-alike link is_open.0 other.links h.links (same-back h.links other.links same.pasts) is_open.1 in closed_first (at.fed, at.is_open)

feeds-alike : ((s : SetupView) → KeptAreGreatest signals (cells_by s)) → ExcusedIsKept → (s : SetupView) (h next other : History) (link : ℕ) (piece : List ℕ) → SameHistory s h other → IsOpen h link → IsAfterFeed s h link piece next
    → StepsAlike s h next other (IsAfterFeed s other link piece)
feeds-alike greatest excused s h next other link piece same is_open after =
    let at = open-alike link is_open.0 h.links other.links same.pasts is_open.1 in
    let ps : found_by_piece (fed_on link h.links) piece ≡ found_by_piece (fed_on link other.links) piece =
    found-pending (fed_on link h.links) piece ∙ ap (λ t. payloads (final_frames (t ++ piece))) at.waiting ∙ sym (found-pending (fed_on link other.links) piece) in
    let f = finds-alike greatest excused s link (found_by_piece (fed_on link h.links) piece) h.found next.found other.found after.found same.found in
    record {
      last = record { links = with_piece link piece other.links; found = f.after };
      is_next = record { links = refl; found = subst (λ (xs : List (List ℕ)). Finds s link xs other.found f.after) ps f.finds };
      same = record {
        pasts = subst (λ (xs : List LinkPast). SamePasts xs (with_piece link piece other.links)) (sym after.links) (pieces-same link piece h.links other.links same.pasts);
        newest = λ k below. f.newest k (same.newest k (let many = ap length after.links ∙ length-with_piece link piece h.links in omega arith));
        found = f.adds.same;
      };
      adds = f.adds;
    }

closes-alike : ((s : SetupView) → KeptAreGreatest signals (cells_by s)) → ExcusedIsKept → (s : SetupView) (h next other : History) (link : ℕ) → SameHistory s h other → IsOpen h link → IsAfterClose s h link next
    → StepsAlike s h next other (IsAfterClose s other link)
closes-alike greatest excused s h next other link same is_open after =
    let at = open-alike link is_open.0 h.links other.links same.pasts is_open.1 in
    let ps : found_by_close (fed_on link h.links) ≡ found_by_close (fed_on link other.links) =
    found-left (fed_on link h.links) ∙ ap (λ t. payloads (frames t)) at.waiting ∙ sym (found-left (fed_on link other.links)) in
    let f = finds-alike greatest excused s link (found_by_close (fed_on link h.links)) h.found next.found other.found after.found same.found in
    record {
      last = record { links = with_closed link other.links; found = f.after };
      is_next = record { links = refl; found = subst (λ (xs : List (List ℕ)). Finds s link xs other.found f.after) ps f.finds };
      same = record {
        pasts = subst (λ (xs : List LinkPast). SamePasts xs (with_closed link other.links)) (sym after.links) (closes-same link h.links other.links same.pasts);
        newest = λ k below. f.newest k (same.newest k (let many = ap length after.links ∙ length-with_closed link h.links in omega arith));
        found = f.adds.same;
      };
      adds = f.adds;
    }

closing-alike : ((s : SetupView) → KeptAreGreatest signals (cells_by s)) → ExcusedIsKept → (s : SetupView) (h next other : History) (link : ℕ) → SameHistory s h other → IsAfterClosing s h link next → StepsAlike s h next other (IsAfterClosing s other link)
closing-alike greatest excused s h next other link same (inl p) =
    let step = closes-alike greatest excused s h next other link same p.0 p.1 in
    record { last = step.last; is_next = inl (open-too s h other link same p.0, step.is_next); same = step.same; adds = step.adds }
closing-alike greatest excused s h next other link same (inr p) =
    stays-alike s h next other (IsAfterClosing s other link) p.1 (inr (closed-both s h other link same p.0, refl)) same

call-alike : ((s : SetupView) → KeptAreGreatest signals (cells_by s)) → ExcusedIsKept → (s : SetupView) (h next other : History) (call : Call) → SameHistory s h other → IsAfterCall s h call next → StepsAlike s h next other (IsAfterCall s other call)
call-alike greatest excused s h next other (Feed link piece) same (inl p) =
    let step = feeds-alike greatest excused s h next other link piece same p.0 p.1 in
    record { last = step.last; is_next = inl (open-too s h other link same p.0, step.is_next); same = step.same; adds = step.adds }
call-alike greatest excused s h next other (Feed link piece) same (inr p) =
    stays-alike s h next other (IsAfterCall s other (Feed link piece)) p.1 (inr (closed-both s h other link same p.0, refl)) same
call-alike greatest excused s h next other (Close link) same p = closing-alike greatest excused s h next other link same p

pub held-decides-call : ((s : SetupView) → KeptAreGreatest signals (cells_by s)) → ExcusedIsKept → HeldDecidesCall
held-decides-call greatest excused s old new h other call o o' a b makes =
    let step = call-alike greatest excused s h makes.next other call (history-same s old h other a b) makes.after in
    record {
      next = step.last;
      after = step.is_next;
      has = history-too s new makes.next step.last step.same makes.has;
      writes = record {
        out = rest-alike o.file o'.file _ _ _ _ step.adds.file makes.writes.out;
        log = rest-alike o.report o'.report _ _ _ _ step.adds.report makes.writes.log;
      };
    }

-- ---- the end

ends-alike : ((s : SetupView) → KeptAreGreatest signals (cells_by s)) → ExcusedIsKept → (s : SetupView) (n : ℕ) (h last other : History) → SameHistory s h other → IsAfterClosingAll s h n last → StepsAlike s h last other (IsAfterClosingAll s other n)
ends-alike greatest excused s zero h last other same p = stays-alike s h last other (IsAfterClosingAll s other zero) p refl same
ends-alike greatest excused s (suc n) h last other same (mid, before, p) =
    let most = ends-alike greatest excused s n h mid other same before in
    let one = closing-alike greatest excused s mid last most.last n most.same p in
    record {
      last = one.last;
      is_next = (most.last, most.is_next, one.is_next);
      same = one.same;
      adds = record {
        file = alike-on _ _ _ _ _ _ most.adds.file one.adds.file;
        report = alike-on _ _ _ _ _ _ most.adds.report one.adds.report;
        same = one.adds.same;
      };
    }

pub held-decides-end : ((s : SetupView) → KeptAreGreatest signals (cells_by s)) → ExcusedIsKept → HeldDecidesEnd
held-decides-end greatest excused s c h last other counts o o' a b f =
    let same = history-same s c h other a b in
    let step = ends-alike greatest excused s (length h.links) h last other same f.closed in
    let end = step.last in (
      end,
      record {
        closed = subst (λ (n : ℕ). IsAfterClosingAll s other n end) (length-same h.links other.links same.pasts) step.is_next;
        counts_are = f.counts_are ∙ counts-same s last.found end.found step.same.found;
        out = rest-alike o.file o'.file _ _ _ _
            (alike-on (file_so_far s (arrivals h.found)) (file_so_far s (arrivals last.found)) (kept_file s (arrivals last.found))
            (file_so_far s (arrivals other.found)) (file_so_far s (arrivals end.found)) (kept_file s (arrivals end.found)) step.adds.file (file-ends-alike s last.found end.found step.same.found)) f.out;
        log = rest-alike o.report o'.report _ _ _ _
            (alike-on (lines s h.found) (lines s last.found) (report_of s last.found)
            (lines s other.found) (lines s end.found) (report_of s end.found) step.adds.report (report-ends-alike s last.found end.found step.same.found)) f.log;
      },
    )
