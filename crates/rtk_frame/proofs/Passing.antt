-- A text that is passed place by place.
use Rattle.std.proofs.Common.{◌≡◌, ◌≢◌, ℕ, zero, suc, ◌+◌, ◌-◌, ◌<◌, ◌≤◌, ◌⊎◌, inl, inr, true, false, List, [], ◌∷◌, ◌++◌, length, get_or, take, drop, refl, sym, ◌∙◌, ap, subst, arith, append_assoc, add-zero, length-append, length-take, length-drop, append-nil, get_or-take}
use Rattle.std.proofs.Math.ListN.{drop_of_length-le}
use Rattle.std.proofs.Math.Seq.{drop-append-add, take-add}
use Rattle.std.proofs.lemmas.List.{take_all}
use Rattle.rtk_frame.specs.Frames.{Frame, frame_at, frames_from, final_from, pending_from, final_frames, frames, pending, IsFirst}
use Rattle.rtk_frame.specs.Frame.{payload_length, payload_of, begins_frame, begins_partial}
use Rattle.rtk_frame.specs.Steps.Scanning.{Passed, Scanned, FrameFree, Searched}
use Rattle.rtk_frame.proofs.Fronts.{not_preamble, partial_not_frame, frame_is_whole, neither_stays}
use Rattle.rtk_frame.proofs.Pieces.{frames_not, frames_frame, final_not, final_frame, final_partial, pending_not, pending_partial}

pub passed_grows : (front t c : List ℕ) → Passed front t → Passed front (t ++ c)
passed_grows [] t c h = tt
passed_grows (x ∷ front) t c h =
    let s = neither_stays x (front ++ t) c h.0 h.1 in (
      subst (λ (z : List ℕ). begins_frame (x ∷ z) ≡ false) (append_assoc front t c) s.0,
      subst (λ (z : List ℕ). begins_partial (x ∷ z) ≡ false) (append_assoc front t c) s.1,
      passed_grows front t c h.2,
    )

passed_push : (front : List ℕ) (x : ℕ) (t : List ℕ) → begins_frame (x ∷ t) ≡ false → begins_partial (x ∷ t) ≡ false → Passed front (x ∷ t) → Passed (front ++ x ∷ []) t
passed_push [] x t f o h = (f, o, tt)
passed_push (y ∷ front) x t f o h =
    let e : front ++ x ∷ t ≡ (front ++ x ∷ []) ++ t = sym (append_assoc front (x ∷ []) t) in (
      subst (λ (z : List ℕ). begins_frame (y ∷ z) ≡ false) e h.0,
      subst (λ (z : List ℕ). begins_partial (y ∷ z) ≡ false) e h.1,
      passed_push front x t f o h.2,
    )

pub final_passed : (front t : List ℕ) (p : ℕ) → Passed front t → final_from 0 p (front ++ t) ≡ final_from 0 (p + length front) t
final_passed [] t p h = ap (λ n. final_from 0 n t) (sym (add-zero p))
final_passed (x ∷ front) t p h =
    let e : p + 1 + length front ≡ p + length (x ∷ front) = omega arith in
    final_not x (front ++ t) p h.0 h.1 ∙ final_passed front t (p + 1) h.2 ∙ ap (λ n. final_from 0 n t) e

pub pending_passed : (front t : List ℕ) → Passed front t → pending_from 0 (front ++ t) ≡ pending_from 0 t
pending_passed [] t h = refl
pending_passed (x ∷ front) t h = pending_not x (front ++ t) 0 h.0 h.1 ∙ pending_passed front t h.2

-- before the first place is passed
pub scanned_start : (text : List ℕ) → Scanned text text
scanned_start text = record { front = []; is = refl; passed = tt }

-- more bytes come
pub scanned_more : (text s c : List ℕ) → Scanned text s → Scanned (text ++ c) (s ++ c)
scanned_more text s c h = record {
  front = h.front;
  is = ap (λ z. z ++ c) h.is ∙ append_assoc h.front s c;
  passed = passed_grows h.front s c h.passed;
}

-- one place is passed
pub scanned_next : (text s : List ℕ) → 0 < length s → begins_frame s ≡ false → begins_partial s ≡ false → Scanned text s → Scanned text (drop 1 s)
scanned_next text [] l f o h = absurd (omega arith)
scanned_next text (x ∷ xs) l f o h = record {
  front = h.front ++ x ∷ [];
  is = h.is ∙ sym (append_assoc h.front (x ∷ []) xs);
  passed = passed_push h.front x xs f o h.passed;
}

-- a frame stands where the scan is
first_at : (front s : List ℕ) → Passed front s → begins_frame s ≡ true → IsFirst (final_frames (front ++ s)) (front ++ s) (payload_of s) (drop (payload_length s + 6) s)
unfolding begins_frame
first_at front [] h b = absurd (cc)
first_at front (x ∷ xs) h b =
    let whole : payload_length (x ∷ xs) + 6 ≤ length (x ∷ xs) = frame_is_whole (x ∷ xs) b in
    let f : Frame = frame_at (0 + length front) (x ∷ xs) in
    let n : length f.payload ≡ payload_length (x ∷ xs) = omega (arith, length-take (payload_length (x ∷ xs)) (drop 3 (x ∷ xs)), length-drop 3 (x ∷ xs)) in
    let e : f.place + (length f.payload + 6) ≡ length front + (payload_length (x ∷ xs) + 6) = omega arith in (
      f,
      final_from (payload_length (x ∷ xs) + 5) (0 + length front + 1) xs,
      final_passed front (x ∷ xs) 0 h ∙ final_frame x xs (0 + length front) b,
      refl,
      sym (ap (λ k. drop k (front ++ x ∷ xs)) e ∙ drop-append-add front (x ∷ xs) (payload_length (x ∷ xs) + 6)),
    )

pub scanned_found : (text s : List ℕ) → Scanned text s → begins_frame s ≡ true → IsFirst (final_frames text) text (payload_of s) (drop (payload_length s + 6) s)
scanned_found text s h b = subst (λ (t : List ℕ). IsFirst (final_frames t) t (payload_of s) (drop (payload_length s + 6) s)) (sym h.is) (first_at h.front s h.passed b)

-- the scan waits
waits_at : (s : List ℕ) (p : ℕ) → (begins_partial s ≡ true) ⊎ (s ≡ []) → (final_from 0 p s ≡ []) × (pending_from 0 s ≡ s)
unfolding final_from pending_from
waits_at [] p w = (refl, refl)
waits_at (x ∷ xs) p (inl o) = let f = partial_not_frame (x ∷ xs) o in (final_partial x xs p f o, pending_partial x xs p f o)
waits_at (x ∷ xs) p (inr e) = absurd (cc)

pub scanned_waits : (text s : List ℕ) → Scanned text s → (begins_partial s ≡ true) ⊎ (s ≡ []) → (final_frames text ≡ []) × (pending text ≡ s)
scanned_waits text s h w =
    let r = waits_at s (0 + length h.front) w in
    (ap final_frames h.is ∙ final_passed h.front s 0 h.passed ∙ r.0, ap pending h.is ∙ pending_passed h.front s h.passed ∙ r.1)

-- what is left of a text is no longer than it
pub scanned_length : (text s : List ℕ) → Scanned text s → length s ≤ length text
scanned_length text s h = omega (arith, ap length h.is, length-append h.front s)

-- ---- a text that has ended
none_push : (front : List ℕ) (x : ℕ) (t : List ℕ) → begins_frame (x ∷ t) ≡ false → FrameFree front (x ∷ t) → FrameFree (front ++ x ∷ []) t
none_push [] x t f h = (f, tt)
none_push (y ∷ front) x t f h =
    let e : front ++ x ∷ t ≡ (front ++ x ∷ []) ++ t = sym (append_assoc front (x ∷ []) t) in
    (subst (λ (z : List ℕ). begins_frame (y ∷ z) ≡ false) e h.0, none_push front x t f h.1)

frames_none : (front t : List ℕ) (p : ℕ) → FrameFree front t → frames_from 0 p (front ++ t) ≡ frames_from 0 (p + length front) t
frames_none [] t p h = ap (λ n. frames_from 0 n t) (sym (add-zero p))
frames_none (x ∷ front) t p h =
    let e : p + 1 + length front ≡ p + length (x ∷ front) = omega arith in
    frames_not x (front ++ t) p h.0 ∙ frames_none front t (p + 1) h.1 ∙ ap (λ n. frames_from 0 n t) e

pub searched_start : (text : List ℕ) → Searched text text
searched_start text = record { front = []; is = refl; none = tt }

pub searched_next : (text s : List ℕ) → 0 < length s → begins_frame s ≡ false → Searched text s → Searched text (drop 1 s)
searched_next text [] l f h = absurd (omega arith)
searched_next text (x ∷ xs) l f h = record {
  front = h.front ++ x ∷ [];
  is = h.is ∙ sym (append_assoc h.front (x ∷ []) xs);
  none = none_push h.front x xs f h.none;
}

first_left : (front s : List ℕ) → FrameFree front s → begins_frame s ≡ true → IsFirst (frames (front ++ s)) (front ++ s) (payload_of s) (drop (payload_length s + 6) s)
unfolding begins_frame
first_left front [] h b = absurd (cc)
first_left front (x ∷ xs) h b =
    let whole : payload_length (x ∷ xs) + 6 ≤ length (x ∷ xs) = frame_is_whole (x ∷ xs) b in
    let f : Frame = frame_at (0 + length front) (x ∷ xs) in
    let n : length f.payload ≡ payload_length (x ∷ xs) = omega (arith, length-take (payload_length (x ∷ xs)) (drop 3 (x ∷ xs)), length-drop 3 (x ∷ xs)) in
    let e : f.place + (length f.payload + 6) ≡ length front + (payload_length (x ∷ xs) + 6) = omega arith in (
      f,
      frames_from (payload_length (x ∷ xs) + 5) (0 + length front + 1) xs,
      frames_none front (x ∷ xs) 0 h ∙ frames_frame x xs (0 + length front) b,
      refl,
      sym (ap (λ k. drop k (front ++ x ∷ xs)) e ∙ drop-append-add front (x ∷ xs) (payload_length (x ∷ xs) + 6)),
    )

pub searched_found : (text s : List ℕ) → Searched text s → begins_frame s ≡ true → IsFirst (frames text) text (payload_of s) (drop (payload_length s + 6) s)
searched_found text s h b = subst (λ (t : List ℕ). IsFirst (frames t) t (payload_of s) (drop (payload_length s + 6) s)) (sym h.is) (first_left h.front s h.none b)

pub searched_length : (text s : List ℕ) → Searched text s → length s ≤ length text
searched_length text s h = omega (arith, ap length h.is, length-append h.front s)

pub searched_all : (text : List ℕ) → Searched text [] → frames text ≡ []
unfolding frames_from
searched_all text h = ap frames h.is ∙ frames_none h.front [] 0 h.none

-- ---- bytes that are no preamble
pub scanned_over : (text s : List ℕ) (n : ℕ) → n ≤ length s → ((i : ℕ) → i < n → get_or s i 0 ≢ 0xD3) → Scanned text s → Scanned text (drop n s)
scanned_over text s zero l h k = k
scanned_over text [] (suc n) l h k = absurd (omega arith)
scanned_over text (x ∷ xs) (suc n) l h k =
    let here = not_preamble (x ∷ xs) (h 0 (omega arith)) in
    scanned_over text xs n (omega arith) (λ i m. h (suc i) (omega arith)) (scanned_next text (x ∷ xs) (omega arith) here.0 here.1 k)

-- no more bytes come
pub scanned_none : (text s : List ℕ) → Scanned text s → Scanned (text ++ []) s
scanned_none text s h = subst (λ (t : List ℕ). Scanned t s) (sym (append-nil text)) h

-- if no byte waits, the bytes that come are passed up to the next preamble
pub scanned_skip : (text s c : List ℕ) (n : ℕ) → length s ≡ 0 → n ≤ length c → ((i : ℕ) → i < n → get_or c i 0 ≢ 0xD3) → Scanned text s → Scanned (text ++ take n c) s
scanned_skip text [] c n z l h k =
    let taken : List ℕ = take n c in
    let m : length taken ≡ n = omega (arith, length-take n c) in
    let none : (i : ℕ) → i < n → get_or taken i 0 ≢ 0xD3 = λ i o e. h i o (sym (get_or-take n c i 0 o) ∙ e) in
    let all = scanned_over (text ++ taken) taken n (omega arith) none (scanned_more text [] taken k) in
    subst (λ (t : List ℕ). Scanned (text ++ taken) t) (drop_of_length-le taken (omega arith)) all
scanned_skip text (x ∷ s) c n z l h k = absurd (omega arith)

-- ---- the piece by places
more_of : (h piece : List ℕ) (v m : ℕ) → h ++ take (v + m) piece ≡ (h ++ take v piece) ++ take m (drop v piece)
more_of h piece v m = ap (λ z. h ++ z) (take-add v m piece) ∙ sym (append_assoc h (take v piece) (take m (drop v piece)))

pub scanned_front : (h piece s : List ℕ) (u j : ℕ) → ((text : List ℕ) → Scanned text s → Scanned (text ++ take j (take (length piece - u) (drop u piece))) s) → Scanned (h ++ take u piece) s → Scanned (h ++ take (u + j) piece) s
scanned_front h piece s u j step k =
    let e : take (length piece - u) (drop u piece) ≡ drop u piece = take_all (length piece - u) (drop u piece) (omega (arith, length-drop u piece)) in
    let all : h ++ take (u + j) piece ≡ (h ++ take u piece) ++ take j (take (length piece - u) (drop u piece)) = more_of h piece u j ∙ ap (λ z. (h ++ take u piece) ++ take j z) (sym e) in
    subst (λ (t : List ℕ). Scanned t s) (sym all) (step (h ++ take u piece) k)

pub scanned_fill : (h piece s : List ℕ) (v m : ℕ) → Scanned (h ++ take v piece) s → Scanned (h ++ take (v + m) piece) (s ++ take m (drop v piece))
scanned_fill h piece s v m k = subst (λ (t : List ℕ). Scanned t (s ++ take m (drop v piece))) (sym (more_of h piece v m)) (scanned_more (h ++ take v piece) s (take m (drop v piece)) k)
