-- What follows the first frame of a text has the others.
use Rattle.std.proofs.Common.{◌≡◌, ℕ, zero, suc, ◌+◌, ◌-◌, ◌≤◌, Bool, true, false, List, [], ◌∷◌, ◌++◌, map, length, take, drop, refl, sym, ◌∙◌, ap, arith, append_assoc, add-zero, length-take, length-drop}
use Rattle.std.proofs.lemmas.List.{take-append-drop}
use mathlib.Core.List.{map-append}
use Rattle.rtk_frame.specs.Frame.{payload_length, payload_of, begins_frame, begins_partial}
use Rattle.rtk_frame.specs.Frames.{Frame, end_of, payloads, frame_at, frames_from, final_from, pending_from, frames, final_frames, pending, shifted, IsFirst}
use Rattle.rtk_frame.proofs.Fronts.{frame_is_whole}
use Rattle.rtk_frame.proofs.Pieces.{frames_frame, frames_not, final_frame, final_partial, final_not, pending_frame, pending_not, frames_shifted, final_shifted, frames_cut, final_cut, pending_cut}

-- ---- bytes of the frame before are skipped
frames_skip : (n p : ℕ) (s : List ℕ) → n ≤ length s → frames_from n p s ≡ frames_from 0 (p + n) (drop n s)
unfolding frames_from
frames_skip zero p s h = ap (λ k. frames_from 0 k s) (sym (add-zero p))
frames_skip (suc n) p [] h = absurd (omega arith)
frames_skip (suc n) p (x ∷ xs) h = let e : p + 1 + n ≡ p + suc n = omega arith in frames_skip n (p + 1) xs (omega arith) ∙ ap (λ k. frames_from 0 k (drop n xs)) e

final_skip : (n p : ℕ) (s : List ℕ) → n ≤ length s → final_from n p s ≡ final_from 0 (p + n) (drop n s)
unfolding final_from
final_skip zero p s h = ap (λ k. final_from 0 k s) (sym (add-zero p))
final_skip (suc n) p [] h = absurd (omega arith)
final_skip (suc n) p (x ∷ xs) h = let e : p + 1 + n ≡ p + suc n = omega arith in final_skip n (p + 1) xs (omega arith) ∙ ap (λ k. final_from 0 k (drop n xs)) e

pending_skip : (n : ℕ) (s : List ℕ) → n ≤ length s → pending_from n s ≡ pending_from 0 (drop n s)
unfolding pending_from
pending_skip zero s h = refl
pending_skip (suc n) [] h = absurd (omega arith)
pending_skip (suc n) (x ∷ xs) h = pending_skip n xs (omega arith)

-- ---- where the first frame ends
end_here : (x : ℕ) (xs : List ℕ) (p : ℕ) (f : Frame) → begins_frame (x ∷ xs) ≡ true → frame_at p (x ∷ xs) ≡ f → end_of f ≡ p + suc (payload_length (x ∷ xs) + 5)
end_here x xs p f b same =
    let s : List ℕ = x ∷ xs in
    let n : length (payload_of s) ≡ payload_length s = omega (arith, frame_is_whole s b, length-take (payload_length s) (drop 3 s), length-drop 3 s) in
    let e : end_of (frame_at p s) ≡ p + suc (payload_length s + 5) = omega arith in ap end_of (sym same) ∙ e

-- what follows it, by its end
after_here : (x : ℕ) (xs : List ℕ) (p n e : ℕ) → e ≡ p + suc n → drop n xs ≡ drop (e - p) (x ∷ xs)
after_here x xs p n e h = let k : suc n ≡ e - p = omega arith in ap (λ j. drop j (x ∷ xs)) k

after_next : (x : ℕ) (xs : List ℕ) (p e : ℕ) → p + 1 ≤ e → drop (e - (p + 1)) xs ≡ drop (e - p) (x ∷ xs)
after_next x xs p e h = let k : suc (e - (p + 1)) ≡ e - p = omega arith in ap (λ j. drop j (x ∷ xs)) k

-- ---- all frames
FramesAfter : List ℕ → ℕ → Type 0
FramesAfter t p = (f : Frame) (others : List Frame) → frames_from 0 p t ≡ f ∷ others → (p ≤ f.place) × (others ≡ frames_from 0 (end_of f) (drop (end_of f - p) t))

frames_after_here : (x : ℕ) (xs : List ℕ) (p : ℕ) (t : Bool) → begins_frame (x ∷ xs) ≡ t → FramesAfter xs (p + 1) → FramesAfter (x ∷ xs) p
unfolding FramesAfter
frames_after_here x xs p true b rest f others e =
    let n : ℕ = payload_length (x ∷ xs) + 5 in
    let both : frame_at p (x ∷ xs) ∷ frames_from n (p + 1) xs ≡ f ∷ others = sym (frames_frame x xs p b) ∙ e in
    let same : frame_at p (x ∷ xs) ≡ f = cc in
    let left : frames_from n (p + 1) xs ≡ others = cc in
    let end : end_of f ≡ p + suc n = end_here x xs p f b same in
    let place : p + 1 + n ≡ end_of f = omega arith in (
      omega (arith, ap (λ (g : Frame). g.place) same),
      sym left ∙ frames_skip n (p + 1) xs (omega (arith, frame_is_whole (x ∷ xs) b)) ∙ ap (λ k. frames_from 0 k (drop n xs)) place
          ∙ ap (frames_from 0 (end_of f)) (after_here x xs p n (end_of f) end),
    )
frames_after_here x xs p false b rest f others e =
    let r = rest f others (sym (frames_not x xs p b) ∙ e) in
    (omega (arith, r.0), r.1 ∙ ap (frames_from 0 (end_of f)) (after_next x xs p (end_of f) (omega (arith, r.0))))

frames_after_from : (t : List ℕ) (p : ℕ) → FramesAfter t p
unfolding FramesAfter frames_from
frames_after_from [] p f others e = absurd (cc)
frames_after_from (x ∷ xs) p f others e = frames_after_here x xs p (begins_frame (x ∷ xs)) refl (frames_after_from xs (p + 1)) f others e

pub frames_after : (b : List ℕ) (f : Frame) (others : List Frame) → frames b ≡ f ∷ others → others ≡ map (shifted (end_of f)) (frames (drop (end_of f) b))
unfolding FramesAfter
frames_after b f others e =
    let z : end_of f - 0 ≡ end_of f = omega arith in
    (frames_after_from b 0 f others e).1 ∙ ap (λ n. frames_from 0 (end_of f) (drop n b)) z
    ∙ ap (λ n. frames_from 0 n (drop (end_of f) b)) (sym (add-zero (end_of f))) ∙ frames_shifted (drop (end_of f) b) 0 0 (end_of f)

-- ---- the final ones, and the pending bytes
FinalAfter : List ℕ → ℕ → Type 0
FinalAfter t p = (f : Frame) (others : List Frame) → final_from 0 p t ≡ f ∷ others → (p ≤ f.place) × (others ≡ final_from 0 (end_of f) (drop (end_of f - p) t)) × (pending_from 0 t ≡ pending_from 0 (drop (end_of f - p) t))

final_after_here : (x : ℕ) (xs : List ℕ) (p : ℕ) (t o : Bool) → begins_frame (x ∷ xs) ≡ t → begins_partial (x ∷ xs) ≡ o → FinalAfter xs (p + 1) → FinalAfter (x ∷ xs) p
unfolding FinalAfter
final_after_here x xs p true o b g rest f others e =
    let n : ℕ = payload_length (x ∷ xs) + 5 in
    let both : frame_at p (x ∷ xs) ∷ final_from n (p + 1) xs ≡ f ∷ others = sym (final_frame x xs p b) ∙ e in
    let same : frame_at p (x ∷ xs) ≡ f = cc in
    let left : final_from n (p + 1) xs ≡ others = cc in
    let end : end_of f ≡ p + suc n = end_here x xs p f b same in
    let place : p + 1 + n ≡ end_of f = omega arith in
    let within : n ≤ length xs = omega (arith, frame_is_whole (x ∷ xs) b) in
    let text : drop n xs ≡ drop (end_of f - p) (x ∷ xs) = after_here x xs p n (end_of f) end in (
      omega (arith, ap (λ (g : Frame). g.place) same),
      sym left ∙ final_skip n (p + 1) xs within ∙ ap (λ k. final_from 0 k (drop n xs)) place ∙ ap (final_from 0 (end_of f)) text,
      pending_frame x xs p b ∙ pending_skip n xs within ∙ ap (pending_from 0) text,
    )
final_after_here x xs p false true b g rest f others e =
    let none : [] ≡ f ∷ others = sym (final_partial x xs p b g) ∙ e in absurd (cc)
final_after_here x xs p false false b g rest f others e =
    let r = rest f others (sym (final_not x xs p b g) ∙ e) in
    let text = after_next x xs p (end_of f) (omega (arith, r.0)) in
    (omega (arith, r.0), r.1 ∙ ap (final_from 0 (end_of f)) text, pending_not x xs p b g ∙ r.2 ∙ ap (pending_from 0) text)

final_after_from : (t : List ℕ) (p : ℕ) → FinalAfter t p
unfolding FinalAfter final_from
final_after_from [] p f others e = absurd (cc)
final_after_from (x ∷ xs) p f others e =
    final_after_here x xs p (begins_frame (x ∷ xs)) (begins_partial (x ∷ xs)) refl refl (final_after_from xs (p + 1)) f others e

pub final_after : (b : List ℕ) (f : Frame) (others : List Frame) → final_frames b ≡ f ∷ others → (others ≡ map (shifted (end_of f)) (final_frames (drop (end_of f) b))) × (pending b ≡ pending (drop (end_of f) b))
unfolding FinalAfter
final_after b f others e =
    let z : end_of f - 0 ≡ end_of f = omega arith in
    let r = final_after_from b 0 f others e in (
      r.1 ∙ ap (λ n. final_from 0 (end_of f) (drop n b)) z
          ∙ ap (λ n. final_from 0 n (drop (end_of f) b)) (sym (add-zero (end_of f))) ∙ final_shifted (drop (end_of f) b) 0 0 (end_of f),
      r.2 ∙ ap (λ n. pending_from 0 (drop n b)) z,
    )

-- ---- over payloads alone
payloads_shifted : (n : ℕ) (fs : List Frame) → payloads (map (shifted n) fs) ≡ payloads fs
payloads_shifted n [] = refl
payloads_shifted n (f ∷ fs) = ap (λ z. f.payload ∷ z) (payloads_shifted n fs)

payloads_of_cut : (fs gs hs : List Frame) (n : ℕ) → fs ≡ gs ++ map (shifted n) hs → payloads fs ≡ payloads gs ++ payloads hs
payloads_of_cut fs gs hs n e = ap payloads e ∙ map-append (λ (f : Frame). f.payload) gs (map (shifted n) hs) ∙ ap (λ z. payloads gs ++ z) (payloads_shifted n hs)

pub final_payloads_cut : (b c : List ℕ) → payloads (final_frames (b ++ c)) ≡ payloads (final_frames b) ++ payloads (final_frames (pending b ++ c))
final_payloads_cut b c = payloads_of_cut (final_frames (b ++ c)) (final_frames b) (final_frames (pending b ++ c)) (length b - length (pending b)) (final_cut b c)

pub payloads_cut : (b : List ℕ) → payloads (frames b) ≡ payloads (final_frames b) ++ payloads (frames (pending b))
payloads_cut b = payloads_of_cut (frames b) (final_frames b) (frames (pending b)) (length b - length (pending b)) (frames_cut b)

-- the payloads of the text from the first frame on
pub first_payloads : (b payload rest : List ℕ) → IsFirst (frames b) b payload rest → payloads (frames b) ≡ payload ∷ payloads (frames rest)
first_payloads b payload rest h =
    let others = frames_after b h.0 h.1 h.2 in
    ap payloads h.2 ∙ ap (λ z. z ∷ payloads h.1) h.3 ∙ ap (λ z. payload ∷ payloads z) others
    ∙ ap (λ z. payload ∷ z) (payloads_shifted (end_of h.0) (frames (drop (end_of h.0) b)) ∙ ap (λ z. payloads (frames z)) (sym h.4))

pub first_final_payloads : (b payload rest : List ℕ) → IsFirst (final_frames b) b payload rest → (payloads (final_frames b) ≡ payload ∷ payloads (final_frames rest)) × (pending b ≡ pending rest)
first_final_payloads b payload rest h =
    let r = final_after b h.0 h.1 h.2 in (
      ap payloads h.2 ∙ ap (λ z. z ∷ payloads h.1) h.3 ∙ ap (λ z. payload ∷ payloads z) r.0
          ∙ ap (λ z. payload ∷ z) (payloads_shifted (end_of h.0) (final_frames (drop (end_of h.0) b)) ∙ ap (λ z. payloads (final_frames z)) (sym h.4)),
      r.1 ∙ ap pending (sym h.4),
    )

-- the same with more bytes after it
after_first : (t u payload rest : List ℕ) → IsFirst (final_frames t) t payload rest → (payloads (final_frames (t ++ u)) ≡ payload ∷ payloads (final_frames (rest ++ u))) × (pending (t ++ u) ≡ pending (rest ++ u))
after_first t u payload rest h =
    let r = first_final_payloads t payload rest h in (
      final_payloads_cut t u ∙ ap (λ z. z ++ payloads (final_frames (pending t ++ u))) r.0
          ∙ ap (λ z. payload ∷ (payloads (final_frames rest) ++ payloads (final_frames (z ++ u)))) r.1
          ∙ ap (λ z. payload ∷ z) (sym (final_payloads_cut rest u)),
      pending_cut t u ∙ ap (λ z. pending (z ++ u)) r.1 ∙ sym (pending_cut rest u),
    )

-- after a frame was found in h and the first bytes of a piece, the rest of the piece gives the
-- others
pub after_found : (h piece : List ℕ) (used : ℕ) (payload rest : List ℕ) → IsFirst (final_frames (h ++ take used piece)) (h ++ take used piece) payload rest → (payloads (final_frames (h ++ piece)) ≡ payload ∷ payloads (final_frames (rest ++ drop used piece))) × (pending (h ++ piece) ≡ pending (rest ++ drop used piece))
after_found h piece used payload rest k =
    let e : h ++ piece ≡ (h ++ take used piece) ++ drop used piece = ap (λ z. h ++ z) (sym (take-append-drop used piece)) ∙ sym (append_assoc h (take used piece) (drop used piece)) in
    let r = after_first (h ++ take used piece) (drop used piece) payload rest k in
    (ap (λ z. payloads (final_frames z)) e ∙ r.0, ap pending e ∙ r.1)
