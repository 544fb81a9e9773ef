-- The frames of a text are the only list of frames that has the stated properties.
use Rattle.std.proofs.Common.{◌≡◌, ◌⊎◌, inl, inr, ℕ, zero, suc, ◌+◌, ◌<◌, ◌≤◌, Bool, true, false, List, [], ◌∷◌, length, drop, refl, sym, ◌∙◌, ap, subst, arith, length-take, length-drop}
use Rattle.std.proofs.Math.ListN.{drop_of_length-le}
use Rattle.std.proofs.Math.Nat.{eq-or-lt_of_le}
use Rattle.std.proofs.lemmas.Bool.{cases_order}
use Rattle.std.proofs.lemmas.List.{drop-drop}
use Rattle.rtk_frame.specs.Frames.{Frame, frames_from, frames, IsFramesFrom}
use Rattle.rtk_frame.specs.Frame.{payload_length, payload_of, begins_frame, IsFrameAt}
use Rattle.rtk_frame.proofs.Fronts.{frame_is_whole, nothing_begins}
use Rattle.rtk_frame.proofs.Pieces.{frames_frame, frames_not}

none_past : (b : List ℕ) (q : ℕ) → length b ≤ q → IsFrameAt b q → ⊥
none_past b q h s = let e : begins_frame [] ≡ true = sym (ap begins_frame (drop_of_length-le b h)) ∙ s in let n = nothing_begins in cc

later_by : (b : List ℕ) (p q : ℕ) → begins_frame (drop p b) ≡ false → IsFrameAt b q → (p ≡ q) ⊎ (p < q) → p + 1 ≤ q
later_by b p q n s (inl e) = let t : begins_frame (drop p b) ≡ true = ap (λ k. begins_frame (drop k b)) e ∙ s in absurd (cc)
later_by b p q n s (inr l) = omega arith

-- a place at which no frame stands may come before
from_before : (b : List ℕ) (p : ℕ) (fs : List Frame) → begins_frame (drop p b) ≡ false → IsFramesFrom b (p + 1) fs → IsFramesFrom b p fs
from_before b p [] n h = λ q l s. h q (later_by b p q n s (eq-or-lt_of_le l)) s
from_before b p (f ∷ fs) n h =
    (omega (arith, h.0), h.1, h.2, λ q l m s. h.3 q (later_by b p q n s (eq-or-lt_of_le l)) m s, h.4)

tail_of : (x : ℕ) (xs b : List ℕ) (p : ℕ) → x ∷ xs ≡ drop p b → xs ≡ drop (p + 1) b
tail_of x xs b p e = ap (drop 1) e ∙ drop-drop 1 p b

Holds : List ℕ → List ℕ → Type 0
Holds b s = (k p : ℕ) → s ≡ drop p b → k ≤ length s → IsFramesFrom b (p + k) (frames_from k p s)

here : (b : List ℕ) (x : ℕ) (xs : List ℕ) (p : ℕ) (t : Bool) → begins_frame (x ∷ xs) ≡ t → x ∷ xs ≡ drop p b → Holds b xs → IsFramesFrom b p (frames_from 0 p (x ∷ xs))
unfolding Holds
here b x xs p true t e rest =
    let whole : payload_length (x ∷ xs) + 6 ≤ length (x ∷ xs) = frame_is_whole (x ∷ xs) t in
    let stands : IsFrameAt b p = sym (ap begins_frame e) ∙ t in
    let n : length (payload_of (x ∷ xs)) ≡ payload_length (x ∷ xs) = omega (arith, length-take (payload_length (x ∷ xs)) (drop 3 (x ∷ xs)), length-drop 3 (x ∷ xs)) in
    let place : p + 1 + (payload_length (x ∷ xs) + 5) ≡ p + (length (payload_of (x ∷ xs)) + 6) = omega arith in
    let others : List Frame = frames_from (payload_length (x ∷ xs) + 5) (p + 1) xs in
    let more : IsFramesFrom b (p + (length (payload_of (x ∷ xs)) + 6)) others =
    subst (λ (m : ℕ). IsFramesFrom b m others) place (rest (payload_length (x ∷ xs) + 5) (p + 1) (tail_of x xs b p e) (omega arith)) in
    subst (λ (fs : List Frame). IsFramesFrom b p fs) (sym (frames_frame x xs p t)) (omega arith, stands, ap payload_of e, λ q l m s. absurd (omega arith), more)
here b x xs p false t e rest =
    let none : begins_frame (drop p b) ≡ false = sym (ap begins_frame e) ∙ t in
    let place : p + 1 + 0 ≡ p + 1 = omega arith in
    let others : List Frame = frames_from 0 (p + 1) xs in
    let more : IsFramesFrom b (p + 1) others = subst (λ (m : ℕ). IsFramesFrom b m others) place (rest 0 (p + 1) (tail_of x xs b p e) (omega arith)) in
    subst (λ (fs : List Frame). IsFramesFrom b p fs) (sym (frames_not x xs p t)) (from_before b p others none more)

holds : (b s : List ℕ) → Holds b s
unfolding Holds frames_from
holds b [] k p e l = λ q m s. none_past b q (omega (arith, ap length e, length-drop p b)) s
holds b (x ∷ xs) (suc k) p e l =
    let place : p + 1 + k ≡ p + suc k = omega arith in
    subst (λ (m : ℕ). IsFramesFrom b m (frames_from k (p + 1) xs)) place (holds b xs k (p + 1) (tail_of x xs b p e) (omega arith))
holds b (x ∷ xs) zero p e l =
    let place : p ≡ p + 0 = omega arith in
    subst (λ (m : ℕ). IsFramesFrom b m (frames_from 0 p (x ∷ xs))) place (here b x xs p (begins_frame (x ∷ xs)) refl e (holds b xs))

pub frames_are : (b : List ℕ) → IsFramesFrom b 0 (frames b)
unfolding Holds
frames_are b = holds b b 0 0 refl (omega arith)

-- and no other list is
same_place : (b : List ℕ) (m : ℕ) (f g : Frame) (fs gs : List Frame) → IsFramesFrom b m (f ∷ fs) → IsFramesFrom b m (g ∷ gs) → (f.place ≡ g.place) ⊎ ((f.place < g.place) ⊎ (g.place < f.place)) → f ≡ g
same_place b m f g fs gs h i (inl e) =
    let p : f.payload ≡ g.payload = h.2 ∙ ap (λ k. payload_of (drop k b)) e ∙ sym i.2 in
    let frame : ℕ → List ℕ → Frame = λ (k : ℕ) (u : List ℕ). record { place = k; payload = u } in
    ap (λ (k : ℕ). frame k f.payload) e ∙ ap (frame g.place) p
same_place b m f g fs gs h i (inr (inl l)) = absurd (i.3 f.place h.0 l h.1)
same_place b m f g fs gs h i (inr (inr l)) = absurd (h.3 g.place i.0 l i.1)

pub frames_unique : (b : List ℕ) (m : ℕ) (fs gs : List Frame) → IsFramesFrom b m fs → IsFramesFrom b m gs → fs ≡ gs
frames_unique b m [] [] h i = refl
frames_unique b m [] (g ∷ gs) h i = absurd (h g.place i.0 i.1)
frames_unique b m (f ∷ fs) [] h i = absurd (i f.place h.0 h.1)
frames_unique b m (f ∷ fs) (g ∷ gs) h i =
    let e : f ≡ g = same_place b m f g fs gs h i (cases_order f.place g.place) in
    let more : fs ≡ gs = frames_unique b (f.place + (length f.payload + 6)) fs gs h.4 (subst (λ (k : Frame). IsFramesFrom b (k.place + (length k.payload + 6)) gs) (sym e) i.4) in cc
