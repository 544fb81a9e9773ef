-- The laws of scanning a text in pieces.
use Rattle.std.proofs.Common.{◌≡◌, ℕ, zero, suc, ◌+◌, ◌-◌, ◌≤◌, Bool, true, false, List, [], ◌∷◌, ◌++◌, map, length, refl, sym, ◌∙◌, ap, arith, add_assoc, add-zero}
use Rattle.rtk_frame.specs.Frames.{Frame, frame_at, frames_from, final_from, pending_from, shifted, final_frames, frames, pending}
use Rattle.rtk_frame.specs.Frame.{payload_length, begins_frame, begins_partial}
use Rattle.rtk_frame.proofs.Fronts.{Same, same_when_whole, frame_is_whole, neither_stays}

-- one place at a time
module _ (x : ℕ) (xs : List ℕ) (p : ℕ) where
  pub frames_frame : begins_frame (x ∷ xs) ≡ true → frames_from 0 p (x ∷ xs) ≡ frame_at p (x ∷ xs) ∷ frames_from (payload_length (x ∷ xs) + 5) (p + 1) xs
  unfolding frames_from
  frames_frame t = rw t refl

  pub frames_not : begins_frame (x ∷ xs) ≡ false → frames_from 0 p (x ∷ xs) ≡ frames_from 0 (p + 1) xs
  unfolding frames_from
  frames_not t = rw t refl

  pub final_frame : begins_frame (x ∷ xs) ≡ true → final_from 0 p (x ∷ xs) ≡ frame_at p (x ∷ xs) ∷ final_from (payload_length (x ∷ xs) + 5) (p + 1) xs
  unfolding final_from
  final_frame t = rw t refl

  pub final_partial : begins_frame (x ∷ xs) ≡ false → begins_partial (x ∷ xs) ≡ true → final_from 0 p (x ∷ xs) ≡ []
  unfolding final_from
  final_partial t o = rw (t, o) refl

  pub final_not : begins_frame (x ∷ xs) ≡ false → begins_partial (x ∷ xs) ≡ false → final_from 0 p (x ∷ xs) ≡ final_from 0 (p + 1) xs
  unfolding final_from
  final_not t o = rw (t, o) refl

  pub pending_frame : begins_frame (x ∷ xs) ≡ true → pending_from 0 (x ∷ xs) ≡ pending_from (payload_length (x ∷ xs) + 5) xs
  unfolding pending_from
  pending_frame t = rw t refl

  pub pending_partial : begins_frame (x ∷ xs) ≡ false → begins_partial (x ∷ xs) ≡ true → pending_from 0 (x ∷ xs) ≡ x ∷ xs
  unfolding pending_from
  pending_partial t o = rw (t, o) refl

  pub pending_not : begins_frame (x ∷ xs) ≡ false → begins_partial (x ∷ xs) ≡ false → pending_from 0 (x ∷ xs) ≡ pending_from 0 xs
  unfolding pending_from
  pending_not t o = rw (t, o) refl

pub frame_grows : (s c : List ℕ) (p : ℕ) → Same s (s ++ c) → frame_at p (s ++ c) ≡ frame_at p s
frame_grows s c p same = ap (λ (u : List ℕ). let f : Frame = record { place = p; payload = u } in f) same.payload

-- what the law says at one text, skip and place
abbrev pub FinalCut : List ℕ → List ℕ → ℕ → ℕ → ℕ → Type 0
FinalCut b c k p q = k ≤ length b → q + length (pending_from k b) ≡ p + length b → final_from k p (b ++ c) ≡ final_from k p b ++ final_from 0 q (pending_from k b ++ c)

final_here : (x : ℕ) (xs c : List ℕ) (p q : ℕ) (t o : Bool) → begins_frame (x ∷ xs) ≡ t → begins_partial (x ∷ xs) ≡ o → ((k : ℕ) → FinalCut xs c k (p + 1) q) → q + length (pending_from 0 (x ∷ xs)) ≡ p + length (x ∷ xs) → final_from 0 p (x ∷ (xs ++ c)) ≡ final_from 0 p (x ∷ xs) ++ final_from 0 q (pending_from 0 (x ∷ xs) ++ c)
final_here x xs c p q true o f g rest e =
    let whole : payload_length (x ∷ xs) + 6 ≤ length (x ∷ xs) = frame_is_whole (x ∷ xs) f in
    let same : Same (x ∷ xs) (x ∷ (xs ++ c)) = same_when_whole (x ∷ xs) c whole in
    let h = pending_frame x xs p f in
    let here : final_from 0 p (x ∷ (xs ++ c)) ≡ frame_at p (x ∷ (xs ++ c)) ∷ final_from (payload_length (x ∷ (xs ++ c)) + 5) (p + 1) (xs ++ c) = final_frame x (xs ++ c) p (same.frame ∙ f) in
    let l : payload_length (x ∷ (xs ++ c)) ≡ payload_length (x ∷ xs) = same.len in
    let fr : frame_at p (x ∷ (xs ++ c)) ≡ frame_at p (x ∷ xs) = frame_grows (x ∷ xs) c p same in
    let more : final_from (payload_length (x ∷ xs) + 5) (p + 1) (xs ++ c) ≡ final_from (payload_length (x ∷ xs) + 5) (p + 1) xs ++ final_from 0 q (pending_from (payload_length (x ∷ xs) + 5) xs ++ c) =
    rest (payload_length (x ∷ xs) + 5) (omega arith) (omega (arith, ap length h)) in
    here ∙ ap (λ n. frame_at p (x ∷ (xs ++ c)) ∷ final_from (n + 5) (p + 1) (xs ++ c)) l
    ∙ ap (λ z. z ∷ final_from (payload_length (x ∷ xs) + 5) (p + 1) (xs ++ c)) fr
    ∙ ap (λ z. frame_at p (x ∷ xs) ∷ z) more
    ∙ sym (ap (λ z. z ++ final_from 0 q (pending_from 0 (x ∷ xs) ++ c)) (final_frame x xs p f) ∙ ap (λ z. (frame_at p (x ∷ xs) ∷ final_from (payload_length (x ∷ xs) + 5) (p + 1) xs) ++ final_from 0 q (z ++ c)) h)
final_here x xs c p q false true f g rest e =
    let h = pending_partial x xs p f g in
    let same : q ≡ p = omega (arith, ap length h) in
    sym (ap (λ z. z ++ final_from 0 q (pending_from 0 (x ∷ xs) ++ c)) (final_partial x xs p f g) ∙ ap (λ z. final_from 0 q (z ++ c)) h ∙ ap (λ z. final_from 0 z (x ∷ (xs ++ c))) same)
final_here x xs c p q false false f g rest e =
    let stays = neither_stays x xs c f g in
    let h = pending_not x xs p f g in
    final_not x (xs ++ c) p stays.0 stays.1 ∙ rest 0 (omega arith) (omega (arith, ap length h))
    ∙ sym (ap (λ z. z ++ final_from 0 q (pending_from 0 (x ∷ xs) ++ c)) (final_not x xs p f g) ∙ ap (λ z. final_from 0 (p + 1) xs ++ final_from 0 q (z ++ c)) h)

pub final_append : (b c : List ℕ) (k p q : ℕ) → FinalCut b c k p q
unfolding final_from pending_from
final_append [] c zero p q h e = let same : p ≡ q = omega arith in ap (λ z. final_from 0 z c) same
final_append [] c (suc k) p q h e = absurd (omega arith)
final_append (x ∷ xs) c (suc k) p q h e = final_append xs c k (p + 1) q (omega arith) (omega arith)
final_append (x ∷ xs) c zero p q h e = final_here x xs c p q (begins_frame (x ∷ xs)) (begins_partial (x ∷ xs)) refl refl (λ k. final_append xs c k (p + 1) q) e

-- all frames are the final frames, and then the frames of the pending bytes
abbrev pub FramesCut : List ℕ → ℕ → ℕ → ℕ → Type 0
FramesCut b k p q = k ≤ length b → q + length (pending_from k b) ≡ p + length b → frames_from k p b ≡ final_from k p b ++ frames_from 0 q (pending_from k b)

frames_here : (x : ℕ) (xs : List ℕ) (p q : ℕ) (t o : Bool) → begins_frame (x ∷ xs) ≡ t → begins_partial (x ∷ xs) ≡ o → ((k : ℕ) → FramesCut xs k (p + 1) q) → q + length (pending_from 0 (x ∷ xs)) ≡ p + length (x ∷ xs) → frames_from 0 p (x ∷ xs) ≡ final_from 0 p (x ∷ xs) ++ frames_from 0 q (pending_from 0 (x ∷ xs))
frames_here x xs p q true o f g rest e =
    let whole : payload_length (x ∷ xs) + 6 ≤ length (x ∷ xs) = frame_is_whole (x ∷ xs) f in
    let h = pending_frame x xs p f in
    let more = rest (payload_length (x ∷ xs) + 5) (omega arith) (omega (arith, ap length h)) in
    frames_frame x xs p f ∙ ap (λ z. frame_at p (x ∷ xs) ∷ z) more
    ∙ sym (ap (λ z. z ++ frames_from 0 q (pending_from 0 (x ∷ xs))) (final_frame x xs p f) ∙ ap (λ z. (frame_at p (x ∷ xs) ∷ final_from (payload_length (x ∷ xs) + 5) (p + 1) xs) ++ frames_from 0 q z) h)
frames_here x xs p q false true f g rest e =
    let h = pending_partial x xs p f g in
    let same : q ≡ p = omega (arith, ap length h) in
    sym (ap (λ z. z ++ frames_from 0 q (pending_from 0 (x ∷ xs))) (final_partial x xs p f g) ∙ ap (λ z. frames_from 0 q z) h ∙ ap (λ z. frames_from 0 z (x ∷ xs)) same)
frames_here x xs p q false false f g rest e =
    let h = pending_not x xs p f g in
    frames_not x xs p f ∙ rest 0 (omega arith) (omega (arith, ap length h))
    ∙ sym (ap (λ z. z ++ frames_from 0 q (pending_from 0 (x ∷ xs))) (final_not x xs p f g) ∙ ap (λ z. final_from 0 (p + 1) xs ++ frames_from 0 q z) h)

pub frames_final : (b : List ℕ) (k p q : ℕ) → FramesCut b k p q
unfolding final_from pending_from frames_from
frames_final [] zero p q h e = refl
frames_final [] (suc k) p q h e = absurd (omega arith)
frames_final (x ∷ xs) (suc k) p q h e = frames_final xs k (p + 1) q (omega arith) (omega arith)
frames_final (x ∷ xs) zero p q h e = frames_here x xs p q (begins_frame (x ∷ xs)) (begins_partial (x ∷ xs)) refl refl (λ k. frames_final xs k (p + 1) q) e

-- the pending bytes of a text that goes on
abbrev pub PendingCut : List ℕ → List ℕ → ℕ → Type 0
PendingCut b c k = k ≤ length b → pending_from k (b ++ c) ≡ pending_from 0 (pending_from k b ++ c)

pending_here : (x : ℕ) (xs c : List ℕ) (t o : Bool) → begins_frame (x ∷ xs) ≡ t → begins_partial (x ∷ xs) ≡ o → ((k : ℕ) → PendingCut xs c k) → pending_from 0 (x ∷ (xs ++ c)) ≡ pending_from 0 (pending_from 0 (x ∷ xs) ++ c)
pending_here x xs c true o f g rest =
    let whole : payload_length (x ∷ xs) + 6 ≤ length (x ∷ xs) = frame_is_whole (x ∷ xs) f in
    let same : Same (x ∷ xs) (x ∷ (xs ++ c)) = same_when_whole (x ∷ xs) c whole in
    let l : payload_length (x ∷ (xs ++ c)) ≡ payload_length (x ∷ xs) = same.len in
    pending_frame x (xs ++ c) 0 (same.frame ∙ f) ∙ ap (λ n. pending_from (n + 5) (xs ++ c)) l
    ∙ rest (payload_length (x ∷ xs) + 5) (omega arith) ∙ sym (ap (λ z. pending_from 0 (z ++ c)) (pending_frame x xs 0 f))
pending_here x xs c false true f g rest = sym (ap (λ z. pending_from 0 (z ++ c)) (pending_partial x xs 0 f g))
pending_here x xs c false false f g rest =
    let stays = neither_stays x xs c f g in
    pending_not x (xs ++ c) 0 stays.0 stays.1 ∙ rest 0 (omega arith) ∙ sym (ap (λ z. pending_from 0 (z ++ c)) (pending_not x xs 0 f g))

pub pending_append : (b c : List ℕ) (k : ℕ) → PendingCut b c k
unfolding pending_from
pending_append [] c zero h = refl
pending_append [] c (suc k) h = absurd (omega arith)
pending_append (x ∷ xs) c (suc k) h = pending_append xs c k (omega arith)
pending_append (x ∷ xs) c zero h = pending_here x xs c (begins_frame (x ∷ xs)) (begins_partial (x ∷ xs)) refl refl (pending_append xs c)

-- the pending bytes are no longer than the text
pending_short_here : (x : ℕ) (xs : List ℕ) (t o : Bool) → begins_frame (x ∷ xs) ≡ t → begins_partial (x ∷ xs) ≡ o → ((k : ℕ) → length (pending_from k xs) ≤ length xs) → length (pending_from 0 (x ∷ xs)) ≤ length (x ∷ xs)
pending_short_here x xs true o f g rest = omega (arith, ap length (pending_frame x xs 0 f), rest (payload_length (x ∷ xs) + 5))
pending_short_here x xs false true f g rest = omega (arith, ap length (pending_partial x xs 0 f g))
pending_short_here x xs false false f g rest = omega (arith, ap length (pending_not x xs 0 f g), rest 0)

pub pending_short : (b : List ℕ) (k : ℕ) → length (pending_from k b) ≤ length b
unfolding pending_from
pending_short [] k = omega arith
pending_short (x ∷ xs) (suc k) = omega (arith, pending_short xs k)
pending_short (x ∷ xs) zero = pending_short_here x xs (begins_frame (x ∷ xs)) (begins_partial (x ∷ xs)) refl refl (pending_short xs)

-- the frames of a text, shifted by some bytes
final_shifted_here : (x : ℕ) (xs : List ℕ) (p n : ℕ) (t o : Bool) → begins_frame (x ∷ xs) ≡ t → begins_partial (x ∷ xs) ≡ o → ((k : ℕ) → final_from k (n + (p + 1)) xs ≡ map (shifted n) (final_from k (p + 1) xs)) → final_from 0 (n + p) (x ∷ xs) ≡ map (shifted n) (final_from 0 p (x ∷ xs))
final_shifted_here x xs p n true o f g rest =
    final_frame x xs (n + p) f ∙ ap (λ z. frame_at (n + p) (x ∷ xs) ∷ final_from (payload_length (x ∷ xs) + 5) z xs) (add_assoc n p 1)
    ∙ ap (λ z. frame_at (n + p) (x ∷ xs) ∷ z) (rest (payload_length (x ∷ xs) + 5)) ∙ sym (ap (map (shifted n)) (final_frame x xs p f))
final_shifted_here x xs p n false true f g rest = final_partial x xs (n + p) f g ∙ sym (ap (map (shifted n)) (final_partial x xs p f g))
final_shifted_here x xs p n false false f g rest =
    final_not x xs (n + p) f g ∙ ap (λ z. final_from 0 z xs) (add_assoc n p 1) ∙ rest 0 ∙ sym (ap (map (shifted n)) (final_not x xs p f g))

pub final_shifted : (b : List ℕ) (k p n : ℕ) → final_from k (n + p) b ≡ map (shifted n) (final_from k p b)
unfolding final_from
final_shifted [] k p n = refl
final_shifted (x ∷ xs) (suc k) p n = ap (λ z. final_from k z xs) (add_assoc n p 1) ∙ final_shifted xs k (p + 1) n
final_shifted (x ∷ xs) zero p n = final_shifted_here x xs p n (begins_frame (x ∷ xs)) (begins_partial (x ∷ xs)) refl refl (λ k. final_shifted xs k (p + 1) n)

frames_shifted_here : (x : ℕ) (xs : List ℕ) (p n : ℕ) (t : Bool) → begins_frame (x ∷ xs) ≡ t → ((k : ℕ) → frames_from k (n + (p + 1)) xs ≡ map (shifted n) (frames_from k (p + 1) xs)) → frames_from 0 (n + p) (x ∷ xs) ≡ map (shifted n) (frames_from 0 p (x ∷ xs))
frames_shifted_here x xs p n true f rest =
    frames_frame x xs (n + p) f ∙ ap (λ z. frame_at (n + p) (x ∷ xs) ∷ frames_from (payload_length (x ∷ xs) + 5) z xs) (add_assoc n p 1)
    ∙ ap (λ z. frame_at (n + p) (x ∷ xs) ∷ z) (rest (payload_length (x ∷ xs) + 5)) ∙ sym (ap (map (shifted n)) (frames_frame x xs p f))
frames_shifted_here x xs p n false f rest =
    frames_not x xs (n + p) f ∙ ap (λ z. frames_from 0 z xs) (add_assoc n p 1) ∙ rest 0 ∙ sym (ap (map (shifted n)) (frames_not x xs p f))

pub frames_shifted : (b : List ℕ) (k p n : ℕ) → frames_from k (n + p) b ≡ map (shifted n) (frames_from k p b)
unfolding frames_from
frames_shifted [] k p n = refl
frames_shifted (x ∷ xs) (suc k) p n = ap (λ z. frames_from k z xs) (add_assoc n p 1) ∙ frames_shifted xs k (p + 1) n
frames_shifted (x ∷ xs) zero p n = frames_shifted_here x xs p n (begins_frame (x ∷ xs)) refl (λ k. frames_shifted xs k (p + 1) n)

-- the laws at whole texts
pub final_cut : (b c : List ℕ) → final_frames (b ++ c) ≡ final_frames b ++ map (shifted (length b - length (pending b))) (final_frames (pending b ++ c))
final_cut b c =
    final_append b c 0 0 (length b - length (pending b)) (omega arith) (omega (arith, pending_short b 0))
    ∙ ap (λ z. final_frames b ++ z) (ap (λ n. final_from 0 n (pending b ++ c)) (sym (add-zero (length b - length (pending b)))) ∙ final_shifted (pending b ++ c) 0 0 (length b - length (pending b)))

pub frames_cut : (b : List ℕ) → frames b ≡ final_frames b ++ map (shifted (length b - length (pending b))) (frames (pending b))
frames_cut b =
    frames_final b 0 0 (length b - length (pending b)) (omega arith) (omega (arith, pending_short b 0))
    ∙ ap (λ z. final_frames b ++ z) (ap (λ n. frames_from 0 n (pending b)) (sym (add-zero (length b - length (pending b)))) ∙ frames_shifted (pending b) 0 0 (length b - length (pending b)))

pub pending_cut : (b c : List ℕ) → pending (b ++ c) ≡ pending (pending b ++ c)
pending_cut b c = pending_append b c 0 (omega arith)
