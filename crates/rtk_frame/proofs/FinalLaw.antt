-- The final frames and the pending bytes of a text are the only ones that have the stated
-- properties.
use Rattle.std.proofs.Common.{◌≡◌, ◌⊎◌, inl, inr, ℕ, zero, suc, ◌+◌, ◌<◌, ◌≤◌, Bool, true, false, List, [], ◌∷◌, length, drop, refl, sym, ◌∙◌, ap, subst, arith, length-take, length-drop}
use Rattle.std.proofs.Math.ListN.{drop_of_length-le}
use Rattle.std.proofs.Math.Nat.{eq-or-lt_of_le}
use Rattle.std.proofs.lemmas.Bool.{cases_order}
use Rattle.std.proofs.lemmas.List.{drop-drop}
use Rattle.rtk_frame.specs.Frame.{payload_length, begins_frame, begins_partial, IsPartialFrameAt}
use Rattle.rtk_frame.specs.Frames.{Frame, end_of, frame_at, frames_from, final_from, pending_from, frames, final_frames, pending, IsFree, Waits, AreThose, AreFinal, IsPending}
use Rattle.rtk_frame.proofs.Fronts.{frame_is_whole, nothing_partial}
use Rattle.rtk_frame.proofs.Pieces.{frames_frame, frames_not, final_frame, final_partial, final_not, pending_frame, pending_partial, pending_not}

-- ---- lists of those with a property
those_same : (P Q : Frame → Type 0) (fs gs : List Frame) → ((f : Frame) → P f → Q f) → ((f : Frame) → Q f → P f) → AreThose P fs gs → AreThose Q fs gs
those_same P Q [] gs to from h = h
those_same P Q (f ∷ fs) gs to from (inl h) = inl (h.0, to f h.1, h.2, those_same P Q fs h.0 to from h.3)
those_same P Q (f ∷ fs) gs to from (inr h) = inr (λ q. h.0 (from f q), those_same P Q fs gs to from h.1)

pub those_unique : (P : Frame → Type 0) (fs gs hs : List Frame) → AreThose P fs gs → AreThose P fs hs → gs ≡ hs
those_unique P [] gs hs h i = h ∙ sym i
those_unique P (f ∷ fs) gs hs (inl h) (inl i) = h.2 ∙ ap (λ z. f ∷ z) (those_unique P fs h.0 i.0 h.3 i.3) ∙ sym i.2
those_unique P (f ∷ fs) gs hs (inl h) (inr i) = absurd (i.0 h.1)
those_unique P (f ∷ fs) gs hs (inr h) (inl i) = absurd (h.0 i.1)
those_unique P (f ∷ fs) gs hs (inr h) (inr i) = those_unique P fs gs hs h.1 i.1

-- ---- all frames of a list begin at a place or after it
AllFrom : ℕ → List Frame → Type 0
AllFrom n [] = Unit {0}
AllFrom n (f ∷ fs) = (n ≤ f.place) × AllFrom n fs

from_less : (m n : ℕ) (fs : List Frame) → m ≤ n → AllFrom n fs → AllFrom m fs
unfolding AllFrom
from_less m n [] l h = tt
from_less m n (f ∷ fs) l h = (omega (arith, h.0), from_less m n fs l h.1)

free_before : (p : ℕ) (fs : List Frame) → AllFrom (p + 1) fs → IsFree fs p
unfolding AllFrom
free_before p [] h = tt
free_before p (f ∷ fs) h = (inl (omega (arith, h.0)), free_before p fs h.1)

none_those : (P : Frame → Type 0) (n : ℕ) (fs : List Frame) → AllFrom n fs → ((f : Frame) → n ≤ f.place → P f → ⊥) → AreThose P fs []
unfolding AllFrom
none_those P n [] h never = refl
none_those P n (f ∷ fs) h never = inr (never f h.0, none_those P n fs h.1 never)

all_from_here : (x : ℕ) (xs : List ℕ) (p : ℕ) (t : Bool) → begins_frame (x ∷ xs) ≡ t → ((k : ℕ) → AllFrom (p + 1 + k) (frames_from k (p + 1) xs)) → AllFrom p (frames_from 0 p (x ∷ xs))
unfolding AllFrom
all_from_here x xs p true b rest =
    let n : ℕ = payload_length (x ∷ xs) + 5 in
    subst (λ (fs : List Frame). AllFrom p fs) (sym (frames_frame x xs p b)) (omega arith, from_less p (p + 1 + n) (frames_from n (p + 1) xs) (omega arith) (rest n))
all_from_here x xs p false b rest =
    subst (λ (fs : List Frame). AllFrom p fs) (sym (frames_not x xs p b)) (from_less p (p + 1 + 0) (frames_from 0 (p + 1) xs) (omega arith) (rest 0))

all_from : (s : List ℕ) (k p : ℕ) → AllFrom (p + k) (frames_from k p s)
unfolding AllFrom frames_from
all_from [] k p = tt
all_from (x ∷ xs) (suc k) p = let e : p + 1 + k ≡ p + suc k = omega arith in subst (λ (n : ℕ). AllFrom n (frames_from k (p + 1) xs)) e (all_from xs k (p + 1))
all_from (x ∷ xs) zero p = let e : p ≡ p + 0 = omega arith in subst (λ (n : ℕ). AllFrom n (frames_from 0 p (x ∷ xs))) e (all_from_here x xs p (begins_frame (x ∷ xs)) refl (λ k. all_from xs k (p + 1)))

later_start : (s : List ℕ) (p : ℕ) → AllFrom (p + 1) (frames_from 0 (p + 1) s)
later_start s p = let e : p + 1 + 0 ≡ p + 1 = omega arith in subst (λ (n : ℕ). AllFrom n (frames_from 0 (p + 1) s)) e (all_from s 0 (p + 1))

-- ---- the walk, at a suffix of the text
tail_of : (x : ℕ) (xs b : List ℕ) (p : ℕ) → x ∷ xs ≡ drop p b → xs ≡ drop (p + 1) b
tail_of x xs b p e = ap (drop 1) e ∙ drop-drop 1 p b

here_or_later_by : (b : List ℕ) (p q : ℕ) → begins_partial (drop p b) ≡ false → IsPartialFrameAt b q → (p ≡ q) ⊎ (p < q) → p + 1 ≤ q
here_or_later_by b p q n s (inl e) = let t : begins_partial (drop p b) ≡ true = ap (λ k. begins_partial (drop k b)) e ∙ s in absurd (cc)
here_or_later_by b p q n s (inr l) = omega arith

here_or_later : (b : List ℕ) (p q : ℕ) → begins_partial (drop p b) ≡ false → IsPartialFrameAt b q → p ≤ q → p + 1 ≤ q
here_or_later b p q n s l = here_or_later_by b p q n s (eq-or-lt_of_le l)

none_past : (b : List ℕ) (q : ℕ) → length b ≤ q → IsPartialFrameAt b q → ⊥
none_past b q h s = let e : begins_partial [] ≡ true = sym (ap begins_partial (drop_of_length-le b h)) ∙ s in let n = nothing_partial in cc

-- no place from n on, and before the frame, waits
abbrev pub FinalFrom : List ℕ → List Frame → ℕ → Frame → Type 0
FinalFrom b fs n f = (q : ℕ) → n ≤ q → q < f.place → Waits b fs q → ⊥

FinalsOf : List ℕ → List ℕ → Type 0
FinalsOf b s = (k p : ℕ) → s ≡ drop p b → k ≤ length s → AreThose (FinalFrom b (frames_from k p s) (p + k)) (frames_from k p s) (final_from k p s)

-- after a frame
outside : (g f : Frame) (fs : List Frame) (b : List ℕ) (n : ℕ) → end_of g ≡ n → FinalFrom b (g ∷ fs) g.place f → FinalFrom b fs n f
outside g f fs b n e h q l m w = h q (omega arith) m ((inr (omega arith), w.0), w.1)

after_by : (g f : Frame) (fs : List Frame) (b : List ℕ) (n q : ℕ) → end_of g ≡ n → FinalFrom b fs n f → g.place ≤ q → q < f.place → (q < g.place) ⊎ (end_of g ≤ q) → IsFree fs q → IsPartialFrameAt b q → ⊥
after_by g f fs b n q e h l m (inl i) free s = absurd (omega arith)
after_by g f fs b n q e h l m (inr i) free s = h q (omega arith) m (free, s)

after : (g f : Frame) (fs : List Frame) (b : List ℕ) (n : ℕ) → end_of g ≡ n → FinalFrom b fs n f → FinalFrom b (g ∷ fs) g.place f
after g f fs b n e h q l m w = after_by g f fs b n q e h l m w.0.0 w.0.1 w.1

end_here : (x : ℕ) (xs : List ℕ) (p : ℕ) → begins_frame (x ∷ xs) ≡ true → end_of (frame_at p (x ∷ xs)) ≡ p + 1 + (payload_length (x ∷ xs) + 5)
end_here x xs p b =
    let s : List ℕ = x ∷ xs in
    omega (arith, frame_is_whole s b, length-take (payload_length s) (drop 3 s), length-drop 3 s)

finals_here : (b : List ℕ) (x : ℕ) (xs : List ℕ) (p : ℕ) (t o : Bool) → begins_frame (x ∷ xs) ≡ t → begins_partial (x ∷ xs) ≡ o → x ∷ xs ≡ drop p b → FinalsOf b xs → AreThose (FinalFrom b (frames_from 0 p (x ∷ xs)) p) (frames_from 0 p (x ∷ xs)) (final_from 0 p (x ∷ xs))
unfolding FinalsOf
finals_here b x xs p true o t g e rest =
    let n : ℕ = payload_length (x ∷ xs) + 5 in
    let f : Frame = frame_at p (x ∷ xs) in
    let fs : List Frame = frames_from n (p + 1) xs in
    let gs : List Frame = final_from n (p + 1) xs in
    let end : end_of f ≡ p + 1 + n = end_here x xs p t in
    let inner : AreThose (FinalFrom b fs (p + 1 + n)) fs gs = rest n (p + 1) (tail_of x xs b p e) (omega (arith, frame_is_whole (x ∷ xs) t)) in
    let outer : AreThose (FinalFrom b (f ∷ fs) p) fs gs =
    those_same (FinalFrom b fs (p + 1 + n)) (FinalFrom b (f ∷ fs) p) fs gs (λ g h. after f g fs b (p + 1 + n) end h) (λ g h. outside f g fs b (p + 1 + n) end h) inner in
    let all : AreThose (FinalFrom b (f ∷ fs) p) (f ∷ fs) (f ∷ gs) = inl (gs, λ q l m w. absurd (omega arith), refl, outer) in
    rw (frames_frame x xs p t, final_frame x xs p t) all
finals_here b x xs p false true t g e rest =
    let fs : List Frame = frames_from 0 (p + 1) xs in
    let waits : IsPartialFrameAt b p = sym (ap begins_partial e) ∙ g in
    let free : IsFree fs p = free_before p fs (later_start xs p) in
    let none : AreThose (FinalFrom b fs p) fs [] = none_those (FinalFrom b fs p) (p + 1) fs (later_start xs p) (λ f l h. h p (omega arith) (omega arith) (free, waits)) in
    rw (frames_not x xs p t, final_partial x xs p t g) none
finals_here b x xs p false false t g e rest =
    let fs : List Frame = frames_from 0 (p + 1) xs in
    let gs : List Frame = final_from 0 (p + 1) xs in
    let not : begins_partial (drop p b) ≡ false = sym (ap begins_partial e) ∙ g in
    let inner : AreThose (FinalFrom b fs (p + 1 + 0)) fs gs = rest 0 (p + 1) (tail_of x xs b p e) (omega arith) in
    let all : AreThose (FinalFrom b fs p) fs gs =
    those_same (FinalFrom b fs (p + 1 + 0)) (FinalFrom b fs p) fs gs (λ f h q l m w. let k : p + 1 ≤ q = here_or_later b p q not w.1 l in h q (omega arith) m w) (λ f h q l m w. h q (omega arith) m w) inner in
    rw (frames_not x xs p t, final_not x xs p t g) all

finals_of : (b s : List ℕ) → FinalsOf b s
unfolding FinalsOf frames_from final_from
finals_of b [] k p e l = refl
finals_of b (x ∷ xs) (suc k) p e l =
    let place : p + 1 + k ≡ p + suc k = omega arith in
    let fs : List Frame = frames_from k (p + 1) xs in
    subst (λ (n : ℕ). AreThose (FinalFrom b fs n) fs (final_from k (p + 1) xs)) place (finals_of b xs k (p + 1) (tail_of x xs b p e) (omega arith))
finals_of b (x ∷ xs) zero p e l =
    let place : p ≡ p + 0 = omega arith in
    let fs : List Frame = frames_from 0 p (x ∷ xs) in
    subst (λ (n : ℕ). AreThose (FinalFrom b fs n) fs (final_from 0 p (x ∷ xs))) place (finals_here b x xs p (begins_frame (x ∷ xs)) (begins_partial (x ∷ xs)) refl refl e (finals_of b xs))

pub are_final : (b : List ℕ) → AreFinal b (frames b) (final_frames b)
unfolding FinalsOf
are_final b =
    those_same (FinalFrom b (frames b) (0 + 0)) (λ f. (q : ℕ) → q < f.place → Waits b (frames b) q → ⊥) (frames b) (final_frames b)
    (λ f h q m w. h q (omega arith) m w) (λ f h q l m w. h q m w) (finals_of b b 0 0 refl (omega arith))

pub final_unique : (b : List ℕ) (gs : List Frame) → AreFinal b (frames b) gs → gs ≡ final_frames b
final_unique b gs h = those_unique (λ f. (q : ℕ) → q < f.place → Waits b (frames b) q → ⊥) (frames b) gs (final_frames b) h (are_final b)

-- ---- the pending bytes
abbrev pub PendingFrom : List ℕ → List Frame → ℕ → List ℕ → Type 0
PendingFrom b fs n s = (((q : ℕ) → n ≤ q → Waits b fs q → ⊥) × (s ≡ [])) ⊎ ((q : ℕ) × (n ≤ q) × Waits b fs q × ((r : ℕ) → n ≤ r → r < q → Waits b fs r → ⊥) × (s ≡ drop q b))

pending_after_by : (f : Frame) (fs : List Frame) (b : List ℕ) (n q : ℕ) → end_of f ≡ n → f.place ≤ q → (q < f.place) ⊎ (end_of f ≤ q) → n ≤ q
pending_after_by f fs b n q e l (inl i) = absurd (omega arith)
pending_after_by f fs b n q e l (inr i) = omega arith

pending_after : (f : Frame) (fs : List Frame) (b s : List ℕ) (n : ℕ) → end_of f ≡ n → PendingFrom b fs n s → PendingFrom b (f ∷ fs) f.place s
pending_after f fs b s n e (inl h) = inl (λ q l w. h.0 q (pending_after_by f fs b n q e l w.0.0) (w.0.1, w.1), h.1)
pending_after f fs b s n e (inr h) =
    inr (h.0, omega (arith, h.1), ((inr (omega (arith, h.1)), h.2.0), h.2.1), λ r l m w. h.3 r (pending_after_by f fs b n r e l w.0.0) m (w.0.1, w.1), h.4)

pending_earlier : (fs : List Frame) (b s : List ℕ) (p : ℕ) → begins_partial (drop p b) ≡ false → PendingFrom b fs (p + 1) s → PendingFrom b fs p s
pending_earlier fs b s p not (inl h) = inl (λ q l w. h.0 q (here_or_later b p q not w.1 l) w, h.1)
pending_earlier fs b s p not (inr h) = inr (h.0, omega (arith, h.1), h.2, λ r l m w. h.3 r (here_or_later b p r not w.1 l) m w, h.4)

PendingOf : List ℕ → List ℕ → Type 0
PendingOf b s = (k p : ℕ) → s ≡ drop p b → k ≤ length s → PendingFrom b (frames_from k p s) (p + k) (pending_from k s)

pending_here : (b : List ℕ) (x : ℕ) (xs : List ℕ) (p : ℕ) (t o : Bool) → begins_frame (x ∷ xs) ≡ t → begins_partial (x ∷ xs) ≡ o → x ∷ xs ≡ drop p b → PendingOf b xs → PendingFrom b (frames_from 0 p (x ∷ xs)) p (pending_from 0 (x ∷ xs))
unfolding PendingOf
pending_here b x xs p true o t g e rest =
    let n : ℕ = payload_length (x ∷ xs) + 5 in
    let f : Frame = frame_at p (x ∷ xs) in
    let fs : List Frame = frames_from n (p + 1) xs in
    let inner : PendingFrom b fs (p + 1 + n) (pending_from n xs) = rest n (p + 1) (tail_of x xs b p e) (omega (arith, frame_is_whole (x ∷ xs) t)) in
    rw (frames_frame x xs p t, pending_frame x xs p t) (pending_after f fs b (pending_from n xs) (p + 1 + n) (end_here x xs p t) inner)
pending_here b x xs p false true t g e rest =
    let fs : List Frame = frames_from 0 (p + 1) xs in
    let waits : IsPartialFrameAt b p = sym (ap begins_partial e) ∙ g in
    let free : IsFree fs p = free_before p fs (later_start xs p) in
    let found : PendingFrom b fs p (x ∷ xs) = inr (p, omega arith, (free, waits), λ r l m w. absurd (omega arith), e) in
    rw (frames_not x xs p t, pending_partial x xs p t g) found
pending_here b x xs p false false t g e rest =
    let fs : List Frame = frames_from 0 (p + 1) xs in
    let not : begins_partial (drop p b) ≡ false = sym (ap begins_partial e) ∙ g in
    let place : p + 1 + 0 ≡ p + 1 = omega arith in
    let inner : PendingFrom b fs (p + 1) (pending_from 0 xs) = subst (λ (n : ℕ). PendingFrom b fs n (pending_from 0 xs)) place (rest 0 (p + 1) (tail_of x xs b p e) (omega arith)) in
    rw (frames_not x xs p t, pending_not x xs p t g) (pending_earlier fs b (pending_from 0 xs) p not inner)

pending_of : (b s : List ℕ) → PendingOf b s
unfolding PendingOf frames_from pending_from
pending_of b [] k p e l = inl (λ q m w. none_past b q (omega (arith, ap length e, length-drop p b)) w.1, refl)
pending_of b (x ∷ xs) (suc k) p e l =
    let place : p + 1 + k ≡ p + suc k = omega arith in
    subst (λ (n : ℕ). PendingFrom b (frames_from k (p + 1) xs) n (pending_from k xs)) place (pending_of b xs k (p + 1) (tail_of x xs b p e) (omega arith))
pending_of b (x ∷ xs) zero p e l =
    let place : p ≡ p + 0 = omega arith in
    subst (λ (n : ℕ). PendingFrom b (frames_from 0 p (x ∷ xs)) n (pending_from 0 (x ∷ xs))) place (pending_here b x xs p (begins_frame (x ∷ xs)) (begins_partial (x ∷ xs)) refl refl e (pending_of b xs))

from_start : (b s : List ℕ) (fs : List Frame) → PendingFrom b fs (0 + 0) s → IsPending b fs s
from_start b s fs (inl h) = inl (λ q w. h.0 q (omega arith) w, h.1)
from_start b s fs (inr h) = inr (h.0, h.2, λ r m w. h.3 r (omega arith) m w, h.4)

pub is_pending : (b : List ℕ) → IsPending b (frames b) (pending b)
unfolding PendingOf
is_pending b = from_start b (pending b) (frames b) (pending_of b b 0 0 refl (omega arith))

least_same : (b : List ℕ) (fs : List Frame) (p q : ℕ) → Waits b fs p → Waits b fs q → ((r : ℕ) → r < p → Waits b fs r → ⊥) → ((r : ℕ) → r < q → Waits b fs r → ⊥) → (p ≡ q) ⊎ ((p < q) ⊎ (q < p)) → p ≡ q
least_same b fs p q v w least other (inl e) = e
least_same b fs p q v w least other (inr (inl l)) = absurd (other p l v)
least_same b fs p q v w least other (inr (inr l)) = absurd (least q l w)

pending_same : (b : List ℕ) (fs : List Frame) (s t : List ℕ) → IsPending b fs s → IsPending b fs t → s ≡ t
pending_same b fs s t (inl h) (inl i) = h.1 ∙ sym i.1
pending_same b fs s t (inl h) (inr i) = absurd (h.0 i.0 i.1)
pending_same b fs s t (inr h) (inl i) = absurd (i.0 h.0 h.1)
pending_same b fs s t (inr h) (inr i) = h.3 ∙ ap (λ k. drop k b) (least_same b fs h.0 i.0 h.1 i.1 h.2 i.2 (cases_order h.0 i.0)) ∙ sym i.3

pub pending_unique : (b s : List ℕ) → IsPending b (frames b) s → s ≡ pending b
pending_unique b s h = pending_same b (frames b) s (pending b) h (is_pending b)
