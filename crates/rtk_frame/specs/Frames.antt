-- The frames of a whole text, the frames that more bytes can't change, and the bytes that wait for
-- more (this project's rule).
use Rattle.std.specs.Prelude.{◌≡◌, ◌⊎◌, ℕ, zero, suc, ◌+◌, ◌<◌, ◌≤◌, cond, List, [], ◌∷◌, map, length, drop}
use Rattle.rtk_frame.specs.Frame.{payload_length, payload_of, begins_frame, begins_partial, IsFrameAt, IsPartialFrameAt}

-- a frame, by its place and its payload
pub record Frame : Type 0 where
  pub place : ℕ
  pub payload : List ℕ

-- formula
-- the place after the last byte of a frame
abbrev pub end_of : Frame → ℕ
end_of f = f.place + (length f.payload + 6)

-- the payloads of some frames, in their order
abbrev pub payloads : List Frame → List (List ℕ)
payloads fs = map (λ f. f.payload) fs

-- ---- the rule, in its own words

-- these are the frames of the text from a place on: a frame is at the place of each of them, no
-- frame overlaps the one before it, and no frame begins between two of them, before the first or
-- after the last
abbrev pub IsFramesFrom : List ℕ → ℕ → List Frame → Type 0
IsFramesFrom text from [] = (p : ℕ) → from ≤ p → IsFrameAt text p → ⊥
IsFramesFrom text from (f ∷ fs) = (from ≤ f.place) × IsFrameAt text f.place × (f.payload ≡ payload_of (drop f.place text)) × ((p : ℕ) → from ≤ p → p < f.place → IsFrameAt text p → ⊥) × IsFramesFrom text (end_of f) fs

-- the place is in none of the frames
abbrev pub IsFree : List Frame → ℕ → Type 0
IsFree [] p = Unit {0}
IsFree (f ∷ fs) p = ((p < f.place) ⊎ (end_of f ≤ p)) × IsFree fs p

-- a place outside the text's frames at which a partial frame is: a frame may begin there when more
-- bytes come
abbrev pub Waits : List ℕ → List Frame → ℕ → Type 0
Waits text fs p = IsFree fs p × IsPartialFrameAt text p

-- gs are the frames of fs that have the property, in their order
abbrev pub AreThose : (Frame → Type 0) → List Frame → List Frame → Type 0
AreThose P [] gs = gs ≡ []
AreThose P (f ∷ fs) gs = ((others : List Frame) × P f × (gs ≡ f ∷ others) × AreThose P fs others) ⊎ ((P f → ⊥) × AreThose P fs gs)

-- gs are the frames of fs, the text's frames, that have no waiting place before them
abbrev pub AreFinal : List ℕ → List Frame → List Frame → Type 0
AreFinal text fs gs = AreThose (λ f. (p : ℕ) → p < f.place → Waits text fs p → ⊥) fs gs

-- the suffix of the text from its first waiting place on; it is empty if no place waits
abbrev pub IsPending : List ℕ → List Frame → List ℕ → Type 0
IsPending text fs suffix = (((p : ℕ) → Waits text fs p → ⊥) × (suffix ≡ [])) ⊎ ((p : ℕ) × Waits text fs p × ((q : ℕ) → q < p → Waits text fs q → ⊥) × (suffix ≡ drop p text))

-- ---- the frames, computed from left to right

-- the frame at a place, by the text from there on
abbrev pub frame_at : ℕ → List ℕ → Frame
frame_at place text = record { place = place; payload = payload_of text }

-- formula
-- the frames of a text that begins at a place and whose first `skip` bytes belong to the frame
-- before
unfoldable pub frames_from : ℕ → ℕ → List ℕ → List Frame
frames_from skip place [] = []
frames_from (suc skip) place (x ∷ xs) = frames_from skip (place + 1) xs
frames_from zero place (x ∷ xs) = cond (begins_frame (x ∷ xs)) (frame_at place (x ∷ xs) ∷ frames_from (payload_length (x ∷ xs) + 5) (place + 1) xs) (frames_from zero (place + 1) xs)

-- formula
-- the frames of such a text up to the first waiting place
unfoldable pub final_from : ℕ → ℕ → List ℕ → List Frame
final_from skip place [] = []
final_from (suc skip) place (x ∷ xs) = final_from skip (place + 1) xs
final_from zero place (x ∷ xs) = cond (begins_frame (x ∷ xs)) (frame_at place (x ∷ xs) ∷ final_from (payload_length (x ∷ xs) + 5) (place + 1) xs) (cond (begins_partial (x ∷ xs)) [] (final_from zero (place + 1) xs))

-- formula
-- the text from the first waiting place on
unfoldable pub pending_from : ℕ → List ℕ → List ℕ
pending_from skip [] = []
pending_from (suc skip) (x ∷ xs) = pending_from skip xs
pending_from zero (x ∷ xs) = cond (begins_frame (x ∷ xs)) (pending_from (payload_length (x ∷ xs) + 5) xs) (cond (begins_partial (x ∷ xs)) (x ∷ xs) (pending_from zero xs))

-- the frames of a text: the leftmost one, then the leftmost one after it, and so on
abbrev pub frames : List ℕ → List Frame
frames text = frames_from 0 0 text

-- formula
-- the frames before the first waiting place; no later byte changes them
abbrev pub final_frames : List ℕ → List Frame
final_frames text = final_from 0 0 text

-- formula
-- the bytes that wait for more
abbrev pub pending : List ℕ → List ℕ
pending text = pending_from 0 text

-- ---- cuts

-- the same frame, once n bytes stand before the text
abbrev pub shifted : ℕ → Frame → Frame
shifted n f = record { place = n + f.place; payload = f.payload }

-- the first of these frames of the text has this payload, and the rest of the text is what follows
-- it
abbrev pub IsFirst : List Frame → List ℕ → List ℕ → List ℕ → Type 0
IsFirst fs text payload rest = (f : Frame) × (others : List Frame) × (fs ≡ f ∷ others) × (f.payload ≡ payload) × (rest ≡ drop (end_of f) text)
