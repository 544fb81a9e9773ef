-- The messages that reads bring are those among the frames that they find.
use Rattle.std.proofs.Common.{◌≡◌, ◌≢◌, ℕ, ◌<◌, ◌==◌, zero, suc, inl, inr, Bool, true, false, List, [], ◌∷◌, ◌++◌, length, replicate, Option, None, Some, Result, Ok, Err, refl, sym, ap, subst, ◌∙◌, append-nil, arith}
use Rattle.std.specs.Prelude.{slice_get}
use Rattle.std.proofs.lemmas.Bool.{cases_eq, cases_Bool}
use Rattle.std.proofs.lemmas.Option.{slice_get_within}
use Rattle.rtk_message.specs.declared.any_message.AnyMessage.{AnyMessage as Message}
use Rattle.rtk_message.specs.declared.any_fault.AnyFault.{AnyFault}
use Rattle.rtk_message.specs.AnyDecoded.{Encodes, DecodesBy, number_of, station_of, takes_clock}
use Rattle.rtk_bits.specs.Bits.{bits}
use Rattle.std.specs.Prelude.{IfOk, IsTrue}
use Rattle.rtk_collect.specs.Arrival.{Arrival, At}
use Rattle.rtk_convert.specs.declared.frame_class.FrameClass.{FrameClass}
use Rattle.rtk_convert.specs.declared.frame_class.FrameClass.TheVariants.{OtherMessage, Refused, Foreign, Dated}
use Rattle.rtk_convert.specs.Conversion.{found_on}
use Rattle.rtk_convert.specs.FrameClass.{Found, IsEpochOf, IsClassIf, IsClassOfReading, IsClassOfPayload, and_arrived, arrivals}
use Rattle.rtk_convert.specs.Headline.{has_ended, payloads_by, IsMessageIn, ComeIn, ComeBy, messages_of}
use Rattle.rtk_convert.specs.History.{History, LinkPast, IsOpen, Finds, fed_on, with_piece, with_closed, found_by_piece, found_by_close}
use Rattle.rtk_convert.specs.Kept.{and_came, came_of}
use Rattle.rtk_convert.specs.ReadHistory.{Read, IsAfterPiece, IsHistoryOf, AllClosed, bytes_of}
use Rattle.rtk_convert.specs.ReadSteps.{read_of}
use Rattle.rtk_setup.specs.Setup.{SetupView, taken_by, takes}
use Rattle.rtk_convert.specs.Steps.ReadMessage.{IsReadMessage}
use Rattle.rtk_convert.proofs.ClassLemmas.{dated-reading}
use Rattle.rtk_convert.proofs.GpsOfferLemmas.{accepts-taken}
use Rattle.rtk_convert.proofs.RunLemmas.{length-links}

-- ---- the messages among found frames

messages-and : (link : ℕ) (c : FrameClass) (before : List Found) → messages_of (came_of before) ≡ arrivals before → messages_of (and_came link c (came_of before)) ≡ and_arrived c (arrivals before)
messages-and link OtherMessage before e = e
messages-and link (Refused fault) before e = e
messages-and link Foreign before e = e
messages-and link (Dated a) before e = ap (λ (xs : List Arrival). a ∷ xs) e

pub messages-came : (found : List Found) → messages_of (came_of found) ≡ arrivals found
messages-came [] = refl
messages-came (f ∷ before) = messages-and f.link f.class before (messages-came before)

-- ---- a payload that is a message, and one that is none

message-by : (s : SetupView) (payload : List ℕ) (epoch : Option ℕ) (m : Message) (r : Result Message AnyFault)
    → DecodesBy (taken_by s) (bits payload) r → IsClassOfReading s r (Dated (At epoch m)) → IsMessageIn s payload (At epoch m)
message-by s payload epoch m r d c =
    let p = dated-reading s r (At epoch m) c in
    let is : p.0 ≡ m = sym p.2.dated.0 in
    let encodes : IfOk r (λ x. Encodes (bits payload) x) = d.message in
    let clock : IfOk r (λ x. IsTrue (takes_clock (taken_by s).obs1012 x)) = d.clock in
    subst (λ (x : Message). Encodes (bits payload) x × IsTrue (takes s (number_of x)) × (station_of x ≡ s.station) × IsEpochOf s x epoch × IsTrue (takes_clock (taken_by s).obs1012 x)) is (
      subst (λ (x : Result Message AnyFault). IfOk x (λ y. Encodes (bits payload) y)) p.1 encodes,
      p.2.taken,
      p.2.station,
      p.2.dated.1,
      subst (λ (x : Result Message AnyFault). IfOk x (λ y. IsTrue (takes_clock (taken_by s).obs1012 y))) p.1 clock,
    )

-- a message that is read is valid and of the set, and a fault is of the set
pub read-by : (s : SetupView) (payload : List ℕ) (r : Result Message AnyFault) → DecodesBy (taken_by s) (bits payload) r → IfOk r (λ m. IsReadMessage s m)
read-by s payload (Ok m) d = record { valid = d.message.valid; read = d.accepted }
read-by s payload (Err fault) d = tt

is-message : (s : SetupView) (payload : List ℕ) (a : Arrival) → IsClassOfPayload s payload (Dated a) → IsMessageIn s payload a
is-message s payload (At epoch m) p = message-by s payload epoch m p.0 p.1 p.2

class-at : (s : SetupView) (payload : List ℕ) (f : FrameClass) (epoch : Option ℕ) (m : Message) → IsClassOfPayload s payload f → IsMessageIn s payload (At epoch m) → IsClassIf true s m f
class-at s payload f epoch m p q =
    let read : IsClassOfReading s (Ok m) f = subst (λ (r : Result Message AnyFault). IsClassOfReading s r f) (p.1.only m (accepts-taken s (number_of m) q.1) q.4 q.0) p.2 in
    subst (λ (b : Bool). IsClassIf b s m f) q.1 read

not-other : (s : SetupView) (payload : List ℕ) (a : Arrival) → IsClassOfPayload s payload OtherMessage → IsMessageIn s payload a → ⊥
not-other s payload (At epoch m) p q = class-at s payload OtherMessage epoch m p q

not-refused : (s : SetupView) (payload : List ℕ) (fault : AnyFault) (a : Arrival) → IsClassOfPayload s payload (Refused fault) → IsMessageIn s payload a → ⊥
not-refused s payload fault (At epoch m) p q = class-at s payload (Refused fault) epoch m p q

not-foreign : (s : SetupView) (payload : List ℕ) (a : Arrival) → IsClassOfPayload s payload Foreign → IsMessageIn s payload a → ⊥
not-foreign s payload (At epoch m) p q = class-at s payload Foreign epoch m p q q.2

come-one : (s : SetupView) (link : ℕ) (payload : List ℕ) (ps : List (List ℕ)) (f : FrameClass) (before after : List (ℕ × Arrival))
    → IsClassOfPayload s payload f → ComeIn s link ps (and_came link f before) after → ComeIn s link (payload ∷ ps) before after
come-one s link payload ps OtherMessage before after p more = inr ((λ a. not-other s payload a p), more)
come-one s link payload ps (Refused fault) before after p more = inr ((λ a. not-refused s payload fault a p), more)
come-one s link payload ps Foreign before after p more = inr ((λ a. not-foreign s payload a p), more)
come-one s link payload ps (Dated a) before after p more = inl (a, is-message s payload a p, more)

come-in : (s : SetupView) (link : ℕ) (ps : List (List ℕ)) (before after : List Found) → Finds s link ps before after → ComeIn s link ps (came_of before) (came_of after)
come-in s link [] before after p = ap came_of p
come-in s link (x ∷ xs) before after p = come-one s link x xs p.0 (came_of before) (came_of after) p.1 (come-in s link xs (found_on link p.0 ∷ before) after p.2)

-- ---- the links, by the reads

past : ℕ → List Read → LinkPast
past k reads = record { fed = bytes_of k reads; is_closed = has_ended k reads }

abbrev with_fed : List ℕ → Option LinkPast → Option LinkPast
with_fed piece None = None
with_fed piece (Some p) = Some (record { fed = p.fed ++ piece; is_closed = p.is_closed })

abbrev closing : Option LinkPast → Option LinkPast
closing None = None
closing (Some p) = Some (record { fed = p.fed; is_closed = true })

get-fed : (k : ℕ) (piece : List ℕ) (ps : List LinkPast) → slice_get (with_piece k piece ps) k ≡ with_fed piece (slice_get ps k)
get-fed k piece [] = refl
get-fed zero piece (p ∷ ps) = refl
get-fed (suc k) piece (p ∷ ps) = get-fed k piece ps

get-fed-other : (link k : ℕ) (piece : List ℕ) (ps : List LinkPast) → k ≢ link → slice_get (with_piece link piece ps) k ≡ slice_get ps k
get-fed-other link k piece [] other = refl
get-fed-other zero zero piece (p ∷ ps) other = absurd (other refl)
get-fed-other zero (suc k) piece (p ∷ ps) other = refl
get-fed-other (suc link) zero piece (p ∷ ps) other = refl
get-fed-other (suc link) (suc k) piece (p ∷ ps) other = get-fed-other link k piece ps (λ e. other (ap suc e))

get-closed : (k : ℕ) (ps : List LinkPast) → slice_get (with_closed k ps) k ≡ closing (slice_get ps k)
get-closed k [] = refl
get-closed zero (p ∷ ps) = refl
get-closed (suc k) (p ∷ ps) = get-closed k ps

get-closed-other : (link k : ℕ) (ps : List LinkPast) → k ≢ link → slice_get (with_closed link ps) k ≡ slice_get ps k
get-closed-other link k [] other = refl
get-closed-other zero zero (p ∷ ps) other = absurd (other refl)
get-closed-other zero (suc k) (p ∷ ps) other = refl
get-closed-other (suc link) zero (p ∷ ps) other = refl
get-closed-other (suc link) (suc k) (p ∷ ps) other = get-closed-other link k ps (λ e. other (ap suc e))

get-new : (n k : ℕ) (p : LinkPast) → k < n → slice_get (replicate n p) k ≡ Some p
get-new zero k p lt = absurd (omega arith)
get-new (suc n) zero p lt = refl
get-new (suc n) (suc k) p lt = get-new n k p (omega arith)

-- what a read makes of the past of its own link, and of another link
past-fed : (k x : ℕ) (piece : List ℕ) (before : List Read) → with_fed (x ∷ piece) (Some (past k before)) ≡ Some (past k (read_of k (x ∷ piece) ∷ before))
unfolding past
past-fed k x piece before =
    let same : (k == k) ≡ true = grind arith in
    let some : (length (x ∷ piece) == 0) ≡ false = grind arith in
    rw (same, some) refl

past-ended : (k : ℕ) (before : List Read) → closing (Some (past k before)) ≡ Some (past k (read_of k [] ∷ before))
unfolding past
past-ended k before =
    let same : (k == k) ≡ true = grind arith in
    rw (same, append-nil (bytes_of k before)) refl

past-other : (k link : ℕ) (piece : List ℕ) (before : List Read) → k ≢ link → past k before ≡ past k (read_of link piece ∷ before)
unfolding past
past-other k link piece before other =
    let differs : (link == k) ≡ false = grind arith in
    rw (differs, append-nil (bytes_of k before)) refl

past-after : (s : SetupView) (h : History) (link : ℕ) (piece : List ℕ) (next : History) (k : ℕ) (before : List Read) → IsAfterPiece s h link piece next
    → slice_get h.links k ≡ Some (past k before) → slice_get next.links k ≡ Some (past k (read_of link piece ∷ before))
past-after s h link [] next k before after at = elim (cases_eq k link) [
  | inl same ↦ subst (λ (l : ℕ). slice_get next.links k ≡ Some (past k (read_of l [] ∷ before))) same
      (ap (λ (ps : List LinkPast). slice_get ps k) after.links ∙ ap (λ (l : ℕ). slice_get (with_closed l h.links) k) (sym same) ∙ get-closed k h.links ∙ ap closing at ∙ past-ended k before)
  | inr other ↦ ap (λ (ps : List LinkPast). slice_get ps k) after.links ∙ get-closed-other link k h.links other ∙ at ∙ ap Some (past-other k link [] before other)
]
past-after s h link (x ∷ piece) next k before after at = elim (cases_eq k link) [
  | inl same ↦ subst (λ (l : ℕ). slice_get next.links k ≡ Some (past k (read_of l (x ∷ piece) ∷ before))) same
      (ap (λ (ps : List LinkPast). slice_get ps k) after.links ∙ ap (λ (l : ℕ). slice_get (with_piece l (x ∷ piece) h.links) k) (sym same)
      ∙ get-fed k (x ∷ piece) h.links ∙ ap (with_fed (x ∷ piece)) at ∙ past-fed k x piece before)
  | inr other ↦ ap (λ (ps : List LinkPast). slice_get ps k) after.links ∙ get-fed-other link k (x ∷ piece) h.links other ∙ at ∙ ap Some (past-other k link (x ∷ piece) before other)
]

links-past : (s : SetupView) (n : ℕ) (reads : List Read) (h : History) (k : ℕ) → IsHistoryOf s n reads h → k < n → slice_get h.links k ≡ Some (past k reads)
unfolding past
links-past s n [] h k p lt = ap (λ (x : History). slice_get x.links k) p ∙ get-new n k (record { fed = []; is_closed = false }) lt
links-past s n (r ∷ before) h k p lt = past-after s p.0 r.link r.piece h k before p.2.after (links-past s n before p.0 k p.1 lt)

fed-at : (k : ℕ) (ps : List LinkPast) (q : LinkPast) → slice_get ps k ≡ Some q → fed_on k ps ≡ q.fed
fed-at k [] q e = absurd (cc)
fed-at zero (p ∷ ps) q e = let same : p ≡ q = cc in ap (λ (x : LinkPast). x.fed) same
fed-at (suc k) (p ∷ ps) q e = fed-at k ps q e

-- ---- the messages that reads bring

come-read : (s : SetupView) (h : History) (link : ℕ) (piece : List ℕ) (next : History) (bytes : List ℕ) → fed_on link h.links ≡ bytes → IsAfterPiece s h link piece next
    → ComeIn s link (payloads_by bytes piece) (came_of h.found) (came_of next.found)
come-read s h link [] next bytes e after =
    subst (λ (fed : List ℕ). ComeIn s link (payloads_by fed []) (came_of h.found) (came_of next.found)) e
    (come-in s link (found_by_close (fed_on link h.links)) h.found next.found after.found)
come-read s h link (x ∷ piece) next bytes e after =
    subst (λ (fed : List ℕ). ComeIn s link (payloads_by fed (x ∷ piece)) (came_of h.found) (came_of next.found)) e
    (come-in s link (found_by_piece (fed_on link h.links) (x ∷ piece)) h.found next.found after.found)

-- an open link has not ended
open-goes-on : (s : SetupView) (n : ℕ) (reads : List Read) (h : History) (link : ℕ) → IsHistoryOf s n reads h → link < n → IsOpen h link → has_ended link reads ≡ false
unfolding past
open-goes-on s n reads h link p lt o =
    let both : Some (record { fed = o.0; is_closed = false }) ≡ Some (past link reads) = sym o.1 ∙ links-past s n reads h link p lt in
    let same : record { fed = o.0; is_closed = false } ≡ past link reads = cc in
    sym (ap (λ (x : LinkPast). x.is_closed) same)

pub come-by : (s : SetupView) (n : ℕ) (reads : List Read) (h : History) → IsHistoryOf s n reads h → ComeBy s n reads (came_of h.found)
unfolding past
come-by s n [] h p = ap (λ (x : History). came_of x.found) p
come-by s n (r ∷ before) h p =
    let old : History = p.0 in
    let o : IsOpen old r.link = p.2.link.is_open in
    let inside : r.link < length old.links = slice_get_within old.links r.link _ o.1 in
    let many : length old.links ≡ n = length-links s n before old p.1 in
    let within : r.link < n = omega (arith, inside, many) in (
      came_of old.found,
      come-by s n before old p.1,
      within,
      open-goes-on s n before old r.link p.1 within o,
      come-read s old r.link r.piece h (bytes_of r.link before) (fed-at r.link old.links (past r.link before) (links-past s n before old r.link p.1 within)) p.2.after,
    )

pub all-ended : (s : SetupView) (n : ℕ) (reads : List Read) (h : History) → IsHistoryOf s n reads h → AllClosed h → (link : ℕ) → link < n → has_ended link reads ≡ true
unfolding past
all-ended s n reads h p closed link lt = elim (cases_Bool (has_ended link reads)) [
  | inl ended ↦ ended
  | inr going ↦ absurd (closed link (bytes_of link reads, links-past s n reads h link p lt ∙ ap (λ (b : Bool). Some (record { fed = bytes_of link reads; is_closed = b })) going))
]
