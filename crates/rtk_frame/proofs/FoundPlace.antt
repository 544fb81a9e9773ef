-- A frame that is found, by its place, and the frames after it.
use Rattle.std.proofs.Common.{◌≡◌, ℕ, ◌+◌, ◌-◌, ◌≤◌, List, [], ◌∷◌, ◌++◌, map, length, take, drop, refl, sym, subst, ◌∙◌, ap, arith, append_assoc, length-append, length-take, length-drop}
use Rattle.std.proofs.lemmas.List.{take-append-drop}
use mathlib.Core.List.{map-append}
use Rattle.rtk_frame.specs.Frame.{payload_length}
use Rattle.rtk_frame.specs.Frames.{Frame, end_of, frames, final_frames, pending, shifted, IsFramesFrom, IsFirst}
use Rattle.rtk_frame.proofs.FirstFrame.{frames_after, final_after}
use Rattle.rtk_frame.proofs.FramesLaw.{frames_are}
use Rattle.rtk_frame.proofs.NextFrame.{frame_within, length_payload_at}
use Rattle.rtk_frame.proofs.Pieces.{frames_cut, final_cut, pending_short}

-- frames that are shifted twice
pub shifted_twice : (a b : ℕ) (fs : List Frame) → map (shifted a) (map (shifted b) fs) ≡ map (shifted (a + b)) fs
shifted_twice a b [] = refl
shifted_twice a b (f ∷ fs) =
    let place : a + (b + f.place) ≡ (a + b) + f.place = omega arith in
    ap (λ (n : ℕ). record { place = n; payload = f.payload } ∷ map (shifted a) (map (shifted b) fs)) place
    ∙ ap (λ (gs : List Frame). shifted (a + b) f ∷ gs) (shifted_twice a b fs)

-- the first frame of a text ends within it
ends_within : (t : List ℕ) (f : Frame) (others : List Frame) → frames t ≡ f ∷ others → end_of f ≤ length t
ends_within t f others e =
    let are = subst (λ (fs : List Frame). IsFramesFrom t 0 fs) e (frames_are t) in
    let size : length f.payload ≡ payload_length (drop f.place t) = ap (λ (xs : List ℕ). length xs) are.2 ∙ length_payload_at t f.place are.1 in
    omega (arith, size, frame_within t f.place are.1)

-- of the text h, of which no more comes
pub found_of_rest : (h payload rest : List ℕ) → IsFirst (frames h) h payload rest
    → (f : Frame) × (frames h ≡ f ∷ map (shifted (end_of f)) (frames rest)) × (f.payload ≡ payload) × (end_of f + length rest ≡ length h)
found_of_rest h payload rest k =
    let f : Frame = k.0 in
    let within = ends_within h f k.1 k.2 in
    let size = ap (λ (xs : List ℕ). length xs) k.4 in
    let left = length-drop (end_of f) h in (
      f,
      k.2 ∙ ap (λ (fs : List Frame). f ∷ fs) (frames_after h f k.1 k.2) ∙ ap (λ (xs : List ℕ). f ∷ map (shifted (end_of f)) (frames xs)) (sym k.4),
      k.3,
      omega (arith, within, size, left),
    )

-- of a text t, after which u comes
found_before : (t u payload rest : List ℕ) → IsFirst (final_frames t) t payload rest
    → (f : Frame) × (final_frames (t ++ u) ≡ f ∷ map (shifted (end_of f)) (final_frames (rest ++ u))) × (f.payload ≡ payload) × (end_of f + length rest ≡ length t)
found_before t u payload rest k =
    let f : Frame = k.0 in
    let end : ℕ = end_of f in
    let more : List Frame = map (shifted (length t - length (pending t))) (final_frames (pending t ++ u)) in
    let left : List Frame = map (shifted (length t - length (pending t))) (frames (pending t)) in
    let within : end ≤ length t = ends_within t f (k.1 ++ left) (frames_cut t ∙ ap (λ (fs : List Frame). fs ++ left) k.2) in
    let size : end + length rest ≡ length t = omega (arith, within, ap (λ (xs : List ℕ). length xs) k.4, length-drop end t) in
    let r = final_after t f k.1 k.2 in
    let first : k.1 ≡ map (shifted end) (final_frames rest) = r.0 ∙ ap (λ (xs : List ℕ). map (shifted end) (final_frames xs)) (sym k.4) in
    let waits : pending t ≡ pending rest = r.1 ∙ ap pending (sym k.4) in
    let b : ℕ = length rest - length (pending rest) in
    let by : length t - length (pending t) ≡ end + b = omega (arith, size, pending_short rest 0, ap (λ (xs : List ℕ). length xs) waits) in
    let ys : List Frame = final_frames (pending rest ++ u) in
    let there : more ≡ map (shifted end) (map (shifted b) ys) =
    ap (λ (n : ℕ). map (shifted n) (final_frames (pending t ++ u))) by
    ∙ ap (λ (xs : List ℕ). map (shifted (end + b)) (final_frames (xs ++ u))) waits
    ∙ sym (shifted_twice end b ys) in (
      f,
      final_cut t u
          ∙ ap (λ (fs : List Frame). fs ++ more) k.2
          ∙ ap (λ (fs : List Frame). f ∷ (fs ++ more)) first
          ∙ ap (λ (fs : List Frame). f ∷ (map (shifted end) (final_frames rest) ++ fs)) there
          ∙ ap (λ (fs : List Frame). f ∷ fs) (sym (map-append (shifted end) (final_frames rest) (map (shifted b) ys)))
          ∙ ap (λ (fs : List Frame). f ∷ map (shifted end) fs) (sym (final_cut rest u)),
      k.3,
      size,
    )

-- of the pending bytes h and a piece, of which so many bytes were used
pub found_in_piece : (h piece : List ℕ) (used : ℕ) (payload rest : List ℕ) → used ≤ length piece → IsFirst (final_frames (h ++ take used piece)) (h ++ take used piece) payload rest
    → (f : Frame) × (final_frames (h ++ piece) ≡ f ∷ map (shifted (end_of f)) (final_frames (rest ++ drop used piece))) × (f.payload ≡ payload) × (end_of f + length rest ≡ length h + used)
found_in_piece h piece used payload rest few k =
    let e : h ++ piece ≡ (h ++ take used piece) ++ drop used piece = ap (λ (xs : List ℕ). h ++ xs) (sym (take-append-drop used piece)) ∙ sym (append_assoc h (take used piece) (drop used piece)) in
    let r = found_before (h ++ take used piece) (drop used piece) payload rest k in
    let size : length (h ++ take used piece) ≡ length h + used = omega (arith, few, length-append h (take used piece), length-take used piece) in
    (r.0, ap final_frames e ∙ r.1, r.2, r.3 ∙ size)
