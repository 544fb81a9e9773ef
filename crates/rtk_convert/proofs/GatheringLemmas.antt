-- The frames that one link finds, one after another.
use Rattle.std.proofs.Common.{◌≡◌, ◌≤◌, ◌<◌, ◌+◌, ◌-◌, ℕ, Bool, List, [], ◌∷◌, ◌++◌, Option, None, Some, Result, Ok, Err, length, take, drop, true, false, refl, ap, append_assoc, sym, subst, ◌∙◌, arith}
use Rattle.std.proofs.lemmas.Grind.{common_steps}
use Rattle.std.proofs.lemmas.List.{append-nil}
use Rattle.std.specs.Borrow.{Bor}
use Rattle.rtk_bits.specs.Bits.{bits}
use Rattle.rtk_message.specs.declared.any_message.AnyMessage.{AnyMessage as Message}
use Rattle.rtk_message.specs.declared.any_fault.AnyFault.{AnyFault}
use Rattle.rtk_message.specs.declared.accepted.Accepted.{Accepted}
use Rattle.rtk_message.specs.declared.system.System.{System}
use Rattle.rtk_message.specs.AnyDecoded.{DecodesBy, number_of, tow_of}
use Rattle.rtk_obs.specs.Clocks.{IsClockMoment}
use Rattle.rtk_collect.specs.Arrival.{Arrival, At}
use Rattle.rtk_frame.specs.Frames.{final_frames, frames, payloads, pending}
use Rattle.rtk_frame.specs.Scanner.{FedAnswer, RestAnswer}
use Rattle.rtk_frame.specs.ScannerView.{ScannerView}
use Rattle.rtk_frame.specs.Stream.{with_more}
use Rattle.rtk_frame.specs.declared.scanner.Answer.TheVariants.{Found, Hungry}
use Rattle.rtk_frame.proofs.PublicLaws.{after_found, first_payloads, with_more-with_more}
use Rattle.rtk_convert.specs.Converter.{WritesOn, WritesInto}
use Rattle.rtk_convert.specs.FileOfArrivals.{file_so_far}
use Rattle.rtk_convert.specs.FrameClass.{IsMomentOf, IsDatedMessage, IsClassIf, IsClassOfReading, system_of, IsClassOfPayload, Found as FoundFrame, arrivals}
use Rattle.rtk_convert.specs.Steps.LinkFrames.{AddsFrames, AddsFramesInPart}
use Rattle.rtk_convert.specs.History.{Finds, epoch_found, later_of, newest_on}
use Rattle.rtk_convert.specs.Steps.AcceptedFrame.{IsEpochIn, AcceptsFrame, BreaksOffAtFrame}
use Rattle.rtk_convert.specs.Report.{lines}
use Rattle.rtk_setup.specs.Setup.{SetupView, taken_by, takes}
use Rattle.rtk_convert.specs.Conversion.{ConversionView, found_on}
use Rattle.rtk_convert.specs.Writing.{Written, WritesRest}
use Rattle.rtk_convert.specs.Steps.WritingInPart.{WritesPartOfRest}
use Rattle.rtk_convert.specs.declared.frame_class.FrameClass.{FrameClass}
use Rattle.rtk_convert.specs.declared.frame_class.FrameClass.TheVariants.{OtherMessage, Refused, Foreign, Dated}
use Rattle.rtk_convert.proofs.WritingLemmas.{writes-none, writes-on}

-- ---- a payload has one class

-- bits decode to one message or fault
decodes-once : (k : Accepted) (bs : List Bool) (r s : Result Message AnyFault) → DecodesBy k bs r → DecodesBy k bs s → r ≡ s
decodes-once k bs (Ok m) s a b = sym (b.only m a.accepted a.clock a.message)
decodes-once k bs (Err f) (Ok n) a b = a.only n b.accepted b.clock b.message
decodes-once k bs (Err f) (Err g) a b = let e : Some f ≡ Some g = sym a.fault ∙ b.fault in cc

-- a clock has one moment
abbrev pub OneClock : Type 0
OneClock = (system : System) (near clock : ℕ) (given : Option ℕ) (t u : ℕ) → IsClockMoment system near clock given t → IsClockMoment system near clock given u → t ≡ u

epoch-once : OneClock → (s : SetupView) (system : System) (clock a b : Option ℕ) → IsMomentOf s system clock a → IsMomentOf s system clock b → a ≡ b
epoch-once law s system None None None p q = refl
epoch-once law s system None None (Some u) p q = absurd q
epoch-once law s system None (Some t) b p q = absurd p
epoch-once law s system (Some clock) None b p q = absurd p
epoch-once law s system (Some clock) (Some t) None p q = absurd q
epoch-once law s system (Some clock) (Some t) (Some u) p q = ap Some (law system s.near clock s.leap_seconds t u p q)

message-once : OneClock → (s : SetupView) (m : Message) (a b : Arrival) → IsDatedMessage s m a → IsDatedMessage s m b → a ≡ b
message-once law s m (At e x) (At f y) p q =
    let messages : x ≡ y = p.0 ∙ sym q.0 in
    let epochs : e ≡ f = epoch-once law s (system_of m) (tow_of m) e f p.1 q.1 in
    cc

class-if-once : OneClock → (b : Bool) (s : SetupView) (m : Message) (f g : FrameClass) → IsClassIf b s m f → IsClassIf b s m g → f ≡ g
class-if-once law false s m f g p q = p ∙ sym q
class-if-once law true s m OtherMessage g p q = absurd p
class-if-once law true s m (Refused fault) g p q = absurd p
class-if-once law true s m Foreign OtherMessage p q = absurd q
class-if-once law true s m Foreign (Refused fault) p q = absurd q
class-if-once law true s m Foreign Foreign p q = refl
class-if-once law true s m Foreign (Dated b) p q = absurd (p q.0)
class-if-once law true s m (Dated a) OtherMessage p q = absurd q
class-if-once law true s m (Dated a) (Refused fault) p q = absurd q
class-if-once law true s m (Dated a) Foreign p q = absurd (q p.0)
class-if-once law true s m (Dated a) (Dated b) p q = ap Dated (message-once law s m a b p.1 q.1)

class-once : OneClock → (s : SetupView) (r : Result Message AnyFault) (f g : FrameClass) → IsClassOfReading s r f → IsClassOfReading s r g → f ≡ g
class-once law s (Err fault) f g p q = p ∙ sym q
class-once law s (Ok m) f g p q = class-if-once law (takes s (number_of m)) s m f g p q

pub comes-once : OneClock → (s : SetupView) (payload : List ℕ) (f g : FrameClass) → IsClassOfPayload s payload f → IsClassOfPayload s payload g → f ≡ g
comes-once law s payload f g (r, decodes, is) (r', decodes', is') =
    let same : r' ≡ r = decodes-once (taken_by s) (bits payload) r' r decodes' decodes in
    class-once law s r f g is (subst (λ (x : Result Message AnyFault). IsClassOfReading s x g) same is')

-- ---- what was written

pub writes-nothing : (s : SetupView) (found : List FoundFrame) (o : Written) → WritesOn s found found o o
writes-nothing s found o = record { out = writes-none o.file (file_so_far s (arrivals found)) (file_so_far s (arrivals found)) refl; log = writes-none o.report (lines s found) (lines s found) refl }

-- what was written, and what was written after it
pub goes-on : (s : SetupView) (first mid last : List FoundFrame) (o0 o1 o2 : Written) → WritesOn s first mid o0 o1 → WritesOn s mid last o1 o2 → WritesOn s first last o0 o2
goes-on s first mid last o0 o1 o2 p q = record { out = writes-on o0.file o1.file o2.file _ _ _ p.out q.out; log = writes-on o0.report o1.report o2.report _ _ _ p.log q.log }

-- ---- one frame more

pub finds-more : (s : SetupView) (link : ℕ) (done : List (List ℕ)) (payload : List ℕ) (f : FrameClass) (before mid : List FoundFrame)
    → Finds s link done before mid → IsClassOfPayload s payload f → Finds s link (done ++ payload ∷ []) before (found_on link f ∷ mid)
finds-more s link [] payload f before mid found comes = (f, comes, ap (λ (t : List FoundFrame). found_on link f ∷ t) found)
finds-more s link (p ∷ ps) payload f before mid (g, here, more) comes = (g, here, finds-more s link ps payload f (found_on link g ∷ before) mid more comes)

pub gathers-none : (old : ConversionView) (link : ℕ) (n : Option ℕ) (o : Written) → AddsFrames old link [] old n n o o
gathers-none old link n o = λ before represents. (
  before,
  record {
    finds = refl;
    represents = represents;
    newest = λ e. e;
    writes = writes-nothing old.setup before o;
  },
)

newest-more : (link : ℕ) (f : FrameClass) (found : List FoundFrame) → newest_on link (found_on link f ∷ found) ≡ later_of (epoch_found f) (newest_on link found)
newest-more link f found = grind (arith, common_steps)

pub gathers-more : OneClock → {old mid new : ConversionView} {link : ℕ} {done : List (List ℕ)} (payload : List ℕ) {epoch n0 n1 n2 : Option ℕ} {o0 o1 o2 : Written}
    → mid.setup ≡ old.setup → AddsFrames old link done mid n0 n1 o0 o1 → AcceptsFrame mid link payload new o1 o2 → IsEpochIn mid.setup payload epoch → n2 ≡ later_of epoch n1
    → AddsFrames old link (done ++ payload ∷ []) new n0 n2 o0 o2
gathers-more law {old} {mid} {new} {link} {done} payload {epoch} {n0} {n1} {n2} {o0} {o1} {o2} same_setup gathers arrives is newest = λ before represents.
    let (found, g) = gathers before represents in
    let (f, comes, a) = arrives found g.represents in
    let same : is.0 ≡ f = comes-once law mid.setup payload is.0 f is.1 comes in (
      found_on link f ∷ found,
      record {
        finds = finds-more old.setup link done payload f before found g.finds (subst (λ (s : SetupView). IsClassOfPayload s payload f) same_setup comes);
        represents = a.represents;
        newest = λ e. newest ∙ ap (λ (t : Option ℕ). later_of t n1) (is.2 ∙ ap epoch_found same) ∙ ap (later_of (epoch_found f)) (g.newest e) ∙ sym (newest-more link f found);
        writes = goes-on old.setup before found (found_on link f ∷ found) o0 o1 o2 g.writes (subst (λ (s : SetupView). WritesOn s found (found_on link f ∷ found) o1 o2) same_setup a.writes);
      },
    )

pub writes-into : (a b c : Option (List ℕ)) (x y z : List ℕ) → WritesRest a b x y → WritesPartOfRest b c y z → WritesInto a c x y z
writes-into a b c x y z p q = (p.0, q.0, q.1, p.1, q.2, q.3 ∙ ap (λ t. with_more t q.0) p.2 ∙ with_more-with_more a p.0 q.0)

pub breaks-off : {old mid : ConversionView} {link : ℕ} {all done : List (List ℕ)} (left : List (List ℕ)) (payload : List ℕ) {n0 n1 : Option ℕ} {o0 o1 o2 : Written}
    → mid.setup ≡ old.setup → all ≡ done ++ (payload ∷ left) → AddsFrames old link done mid n0 n1 o0 o1 → BreaksOffAtFrame mid link payload o1 o2
    → AddsFramesInPart old link all o0 o2
breaks-off {old} {mid} {link} {all} {done} left payload {n0} {n1} {o0} {o1} {o2} same_setup split gathers breaks = λ before represents.
    let (found, g) = gathers before represents in
    let (f, comes, b) = breaks found g.represents in
    let out = subst (λ (s : SetupView). WritesPartOfRest o1.file o2.file (file_so_far s (arrivals found)) (file_so_far s (arrivals (found_on link f ∷ found)))) same_setup b.out in
    let log = subst (λ (s : SetupView). WritesPartOfRest o1.report o2.report (lines s found) (lines s (found_on link f ∷ found))) same_setup b.log in
    record {
      done = done;
      payload = payload;
      left = left;
      split = split;
      found = found;
      finds = g.finds;
      class = f;
      comes = subst (λ (s : SetupView). IsClassOfPayload s payload f) same_setup comes;
      out = writes-into o0.file o1.file o2.file _ _ _ g.writes.out out;
      log = writes-into o0.report o1.report o2.report _ _ _ g.writes.log log;
    }

-- ---- the scanner's answers

rest-is : (at : ℕ) (p : List ℕ) → take (length p - at) (drop at p) ≡ drop at p
rest-is at p = grind (arith, common_steps)

-- of a piece p after the pending bytes s0, the next frame was found: s2 is pending, and the place
-- next was reached
pub record FindsNext (s0 p s1 s2 : List ℕ) (at next : ℕ) (done : List (List ℕ)) (payload : List ℕ) : Type 0 where
  pub split : payloads (final_frames (s0 ++ p)) ≡ done ++ (payload ∷ payloads (final_frames (s2 ++ drop next p)))
  pub taken : payloads (final_frames (s0 ++ p)) ≡ (done ++ payload ∷ []) ++ payloads (final_frames (s2 ++ drop next p))
  pub waiting : pending (s0 ++ p) ≡ pending (s2 ++ drop next p)
  pub within : next ≤ length p
  pub smaller : length s2 + (length p - next) < length s1 + (length p - at)

pub finds-next : (s0 p s1 : List ℕ) (at used : ℕ) (done : List (List ℕ)) (payload : Bor (List ℕ)) (scan : ScannerView)
    → at ≤ length p → used ≤ length (take (length p - at) (drop at p))
    → payloads (final_frames (s0 ++ p)) ≡ done ++ payloads (final_frames (s1 ++ drop at p)) → pending (s0 ++ p) ≡ pending (s1 ++ drop at p)
    → FedAnswer s1 (take (length p - at) (drop at p)) used (Found payload) scan
    → FindsNext s0 p s1 scan.pending at (at + used) done payload.now
finds-next s0 p s1 at used done payload scan within some whole waiting answer =
    let a = subst (λ (q : List ℕ). FedAnswer s1 q used (Found payload) scan) (rest-is at p) answer in
    let few : used ≤ length (drop at p) = subst (λ (q : List ℕ). used ≤ length q) (rest-is at p) some in
    let law = after_found s1 (drop at p) used payload.now scan.pending a.0 in
    let d : drop used (drop at p) ≡ drop (at + used) p = grind (arith, common_steps) in
    let n : length (drop at p) ≡ length p - at = grind (arith, common_steps) in
    let fall = a.1 in
    let split = whole ∙ ap (λ t. done ++ t) (law.0 ∙ ap (λ (t : List ℕ). payload.now ∷ payloads (final_frames (scan.pending ++ t))) d) in
    record {
      split = split;
      taken = split ∙ sym (append_assoc done (payload.now ∷ []) (payloads (final_frames (scan.pending ++ drop (at + used) p))));
      waiting = waiting ∙ law.1 ∙ ap (λ (t : List ℕ). pending (scan.pending ++ t)) d;
      within = grind (arith);
      smaller = grind (arith);
    }

-- the piece was searched to its end
pub record FindsNoMore (s0 p s2 : List ℕ) (done : List (List ℕ)) : Type 0 where
  pub all : payloads (final_frames (s0 ++ p)) ≡ done
  pub waiting : s2 ≡ pending (s0 ++ p)

pub finds-no-more : (s0 p s1 : List ℕ) (at used : ℕ) (done : List (List ℕ)) (scan : ScannerView)
    → payloads (final_frames (s0 ++ p)) ≡ done ++ payloads (final_frames (s1 ++ drop at p)) → pending (s0 ++ p) ≡ pending (s1 ++ drop at p)
    → FedAnswer s1 (take (length p - at) (drop at p)) used Hungry scan
    → FindsNoMore s0 p scan.pending done
finds-no-more s0 p s1 at used done scan whole waiting answer =
    let a = subst (λ (q : List ℕ). FedAnswer s1 q used Hungry scan) (rest-is at p) answer in
    record {
      all = whole ∙ ap (λ t. done ++ payloads t) a.1 ∙ append-nil done;
      waiting = a.2 ∙ sym waiting;
    }

-- of the pending bytes s0 no more will come, and the next frame was found: s2 is pending
pub record FindsLeft (s0 s1 s2 : List ℕ) (done : List (List ℕ)) (payload : List ℕ) : Type 0 where
  pub split : payloads (frames s0) ≡ done ++ (payload ∷ payloads (frames s2))
  pub taken : payloads (frames s0) ≡ (done ++ payload ∷ []) ++ payloads (frames s2)
  pub smaller : length s2 < length s1

pub finds-left : (s0 s1 : List ℕ) (done : List (List ℕ)) (payload : Bor (List ℕ)) (scan : ScannerView)
    → payloads (frames s0) ≡ done ++ payloads (frames s1) → RestAnswer s1 (Some payload) scan → FindsLeft s0 s1 scan.pending done payload.now
finds-left s0 s1 done payload scan whole answer =
    let split = whole ∙ ap (λ t. done ++ t) (first_payloads s1 payload.now scan.pending answer.0) in
    let fall = answer.1 in
    record {
      split = split;
      taken = split ∙ sym (append_assoc done (payload.now ∷ []) (payloads (frames scan.pending)));
      smaller = grind (arith);
    }
