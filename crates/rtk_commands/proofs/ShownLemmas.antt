-- How far a capture is shown: its frames in turn, and the lines of those that were found.
use Rattle.std.proofs.Common.{◌≡◌, ℕ, suc, ◌+◌, ◌<◌, ◌≤◌, inl, inr, List, [], ◌∷◌, ◌++◌, length, take, drop, Option, refl, sym, ◌∙◌, ap, subst, arith, append_assoc, length-append}
use Rattle.std.proofs.lemmas.List.{append-nil}
use Rattle.std.proofs.lemmas.Bool.{cases_order}
use Rattle.std.proofs.Math.Seq.{take-append_seam}
use Rattle.rtk_frame.specs.Frame.{payload_of, IsFrameAt}
use Rattle.rtk_frame.specs.Frames.{Frame, end_of, frames, IsFramesFrom}
use Rattle.rtk_frame.specs.Stream.{with_more, TakesPart}
use Rattle.rtk_frame.proofs.PublicLaws.{with_more-nil, with_more-with_more}
use Rattle.rtk_commands.specs.Shown.{AreLinesBy, Shows, ShowsPart}

-- nothing was taken
pub takes-none : (before : Option (List ℕ)) (text : List ℕ) → TakesPart before before text
takes-none before text = (0, omega arith, sym (with_more-nil before))

-- nothing of a capture was shown
pub shows-none : (IsLine : List ℕ → List ℕ → Type 0) (capture : List ℕ) (before : Option (List ℕ)) → ShowsPart IsLine capture before before
shows-none IsLine capture before = (0, [], refl, takes-none before [])

-- the lines of frames, and the line of one more frame
lines-snoc : (IsLine : List ℕ → List ℕ → Type 0) (fs : List Frame) (f : Frame) (text line : List ℕ) → AreLinesBy IsLine fs text → IsLine f.payload line → AreLinesBy IsLine (fs ++ f ∷ []) (text ++ line)
lines-snoc IsLine [] f text line e one = (line, [], one, refl, rw e (sym (append-nil line)))
lines-snoc IsLine (g ∷ fs) f text line (first, others, one, more, e) last =
    (first, others ++ line, one, lines-snoc IsLine fs f others line more last, rw e (append_assoc first others line))

-- a text is shown up to a place: the frames found end there, of their lines some were taken and the
-- others are pending
pub record Progress (IsLine : List ℕ → List ℕ → Type 0) (capture : List ℕ) (from : ℕ) (before now : Option (List ℕ)) (pending : List ℕ) (count : ℕ) : Type 0 where
  pub found : List Frame
  pub ahead : List Frame
  pub taken : List ℕ
  pub all : frames capture ≡ found ++ ahead
  pub are_ahead : IsFramesFrom capture from ahead
  pub are_lines : AreLinesBy IsLine found (taken ++ pending)
  pub were_taken : now ≡ with_more before taken
  pub counted : count ≡ length found

-- at the start nothing is shown
pub start : (IsLine : List ℕ → List ℕ → Type 0) (capture : List ℕ) (before : Option (List ℕ)) → IsFramesFrom capture 0 (frames capture) → Progress IsLine capture 0 before before [] 0
start IsLine capture before are = record {
  found = [];
  ahead = frames capture;
  taken = [];
  all = refl;
  are_ahead = are;
  are_lines = refl;
  were_taken = sym (with_more-nil before);
  counted = refl;
}

-- no frame is at a place from one on, and before another
abbrev pub NoneBetween : List ℕ → ℕ → ℕ → Type 0
NoneBetween capture from place = (p : ℕ) → from ≤ p → p < place → IsFrameAt capture p → ⊥

-- the next frame is the first of those ahead
record Next (capture : List ℕ) (place : ℕ) (payload : List ℕ) (ahead : List Frame) : Type 0 where
  frame : Frame
  others : List Frame
  splits : ahead ≡ frame ∷ others
  is_payload : frame.payload ≡ payload
  after : IsFramesFrom capture (place + length payload + 6) others

same_place : (capture : List ℕ) (from a b : ℕ) → from ≤ a → from ≤ b → IsFrameAt capture a → IsFrameAt capture b → NoneBetween capture from a → NoneBetween capture from b → a ≡ b
same_place capture from a b le me at bt none more = elim (cases_order a b) [
  | inl e ↦ e
  | inr h ↦ elim h [ inl lt ↦ absurd (more a le lt at) | inr lt ↦ absurd (none b me lt bt) ]
]

next : (capture : List ℕ) (from place : ℕ) (payload : List ℕ) (ahead : List Frame) → from ≤ place → IsFrameAt capture place → payload ≡ payload_of (drop place capture) → NoneBetween capture from place → IsFramesFrom capture from ahead → Next capture place payload ahead
next capture from place payload [] le frame e none are = absurd (are place le frame)
next capture from place payload (f ∷ fs) le frame e none (fle, fat, fpay, fnone, fmore) =
    let same : f.place ≡ place = same_place capture from f.place place fle le fat frame fnone none in
    let pay : f.payload ≡ payload = fpay ∙ ap (λ p. payload_of (drop p capture)) same ∙ sym e in
    let there : end_of f ≡ place + length payload + 6 = let k : length f.payload ≡ length payload = ap length pay in omega arith in
    record {
      frame = f;
      others = fs;
      splits = refl;
      is_payload = pay;
      after = subst (λ p. IsFramesFrom capture p fs) there fmore;
    }

-- one frame more was found, and its line is pending
step : (IsLine : List ℕ → List ℕ → Type 0) (capture : List ℕ) (from place count : ℕ) (payload pending line : List ℕ) (before now : Option (List ℕ)) → Progress IsLine capture from before now pending count → from ≤ place → IsFrameAt capture place → payload ≡ payload_of (drop place capture) → NoneBetween capture from place → IsLine payload line → Progress IsLine capture (place + length payload + 6) before now (pending ++ line) (count + 1)
step IsLine capture from place count payload pending line before now so_far le frame e none one =
    let n = next capture from place payload so_far.ahead le frame e none so_far.are_ahead in
    record {
      found = so_far.found ++ n.frame ∷ [];
      ahead = n.others;
      taken = so_far.taken;
      all = so_far.all ∙ ap (λ fs. so_far.found ++ fs) n.splits ∙ sym (append_assoc so_far.found (n.frame ∷ []) n.others);
      are_ahead = n.after;
      are_lines = subst (AreLinesBy IsLine (so_far.found ++ n.frame ∷ [])) (append_assoc so_far.taken pending line)
          (lines-snoc IsLine so_far.found n.frame (so_far.taken ++ pending) line so_far.are_lines (subst (λ p. IsLine p line) (sym n.is_payload) one));
      were_taken = so_far.were_taken;
      counted = let k : length (so_far.found ++ n.frame ∷ []) ≡ length so_far.found + 1 = length-append so_far.found (n.frame ∷ []) in so_far_count count so_far.counted k;
    }
  where
    so_far_count : (c : ℕ) {a b : ℕ} → c ≡ a → b ≡ a + 1 → c + 1 ≡ b
    so_far_count c h k = omega arith

-- what the search for the next frame says of the one that it found
abbrev pub IsNext : List ℕ → ℕ → ℕ → List ℕ → Type 0
IsNext capture from place payload =
    (from ≤ place) × IsFrameAt capture place × (payload ≡ payload_of (drop place capture)) × NoneBetween capture from place

-- the same, by what the calls say
pub stepped : (IsLine : List ℕ → List ℕ → Type 0) (capture : List ℕ) (from place count : ℕ) (payload pending lines : List ℕ) (before now : Option (List ℕ)) → Progress IsLine capture from before now pending count → IsNext capture from place payload → (line : List ℕ) × IsLine payload line × (lines ≡ pending ++ line) → Progress IsLine capture (place + length payload + 6) before now lines (count + 1)
stepped IsLine capture from place count payload pending lines before now so_far (le, frame, e, none) (line, one, put) =
    subst (λ (ls : List ℕ). Progress IsLine capture (place + length payload + 6) before now ls (count + 1)) (sym put)
    (step IsLine capture from place count payload pending line before now so_far le frame e none one)

-- all pending lines were taken
pub lines-out : (IsLine : List ℕ → List ℕ → Type 0) (capture : List ℕ) (from count : ℕ) (pending : List ℕ) (before now after : Option (List ℕ)) → Progress IsLine capture from before now pending count → after ≡ with_more now pending → Progress IsLine capture from before after [] count
lines-out IsLine capture from count pending before now after so_far e = record {
  found = so_far.found;
  ahead = so_far.ahead;
  taken = so_far.taken ++ pending;
  all = so_far.all;
  are_ahead = so_far.are_ahead;
  are_lines = subst (AreLinesBy IsLine so_far.found) (sym (append-nil (so_far.taken ++ pending))) so_far.are_lines;
  were_taken = e ∙ ap (λ known. with_more known pending) so_far.were_taken ∙ with_more-with_more before so_far.taken pending;
  counted = so_far.counted;
}

found_are_first : (capture : List ℕ) (found ahead : List Frame) → frames capture ≡ found ++ ahead → take (length found) (frames capture) ≡ found
found_are_first capture found ahead all = rw all (take-append_seam found ahead)

part_of_joined : (before now after : Option (List ℕ)) (taken pending : List ℕ) → now ≡ with_more before taken → TakesPart now after pending → TakesPart before after (taken ++ pending)
part_of_joined before now after taken pending e (n, le, more) = (
  length taken + n,
  omega (arith, length-append taken pending),
  more ∙ ap (λ known. with_more known (take n pending)) e ∙ with_more-with_more before taken (take n pending)
      ∙ ap (with_more before) (sym (take-joined taken pending n)),
)
  where
    take-joined : (xs ys : List ℕ) (n : ℕ) → take (length xs + n) (xs ++ ys) ≡ xs ++ take n ys
    take-joined [] ys n = ap (λ k. take k ys) (let e : 0 + n ≡ n = omega arith in e)
    take-joined (x ∷ xs) ys n = ap (λ k. take k (x ∷ (xs ++ ys))) (let e : suc (length xs) + n ≡ suc (length xs + n) = omega arith in e) ∙ ap (λ t. x ∷ t) (take-joined xs ys n)

-- some of the pending lines were taken
pub part_then : (IsLine : List ℕ → List ℕ → Type 0) (capture : List ℕ) (from count : ℕ) (pending : List ℕ) (before now after : Option (List ℕ)) → Progress IsLine capture from before now pending count → TakesPart now after pending → ShowsPart IsLine capture before after
part_then IsLine capture from count pending before now after so_far part = (
  length so_far.found,
  so_far.taken ++ pending,
  subst (λ fs. AreLinesBy IsLine fs (so_far.taken ++ pending)) (sym (found_are_first capture so_far.found so_far.ahead so_far.all)) so_far.are_lines,
  part_of_joined before now after so_far.taken pending so_far.were_taken part,
)

-- none of them was
pub part_now : (IsLine : List ℕ → List ℕ → Type 0) (capture : List ℕ) (from count : ℕ) (pending : List ℕ) (before now : Option (List ℕ)) → Progress IsLine capture from before now pending count → ShowsPart IsLine capture before now
part_now IsLine capture from count pending before now so_far = part_then IsLine capture from count pending before now now so_far (takes-none now pending)

none_ahead : (capture : List ℕ) (from : ℕ) (ahead : List Frame) → ((p : ℕ) → from ≤ p → IsFrameAt capture p → ⊥) → IsFramesFrom capture from ahead → ahead ≡ []
none_ahead capture from [] none are = refl
none_ahead capture from (f ∷ fs) none (le, frame, payload, between, more) = absurd (none f.place le frame)

-- after the last frame all are found
pub found_all : (IsLine : List ℕ → List ℕ → Type 0) (capture : List ℕ) (from count : ℕ) (pending : List ℕ) (before now : Option (List ℕ)) → (so_far : Progress IsLine capture from before now pending count) → ((p : ℕ) → from ≤ p → IsFrameAt capture p → ⊥) → frames capture ≡ so_far.found
found_all IsLine capture from count pending before now so_far none =
    so_far.all ∙ ap (λ fs. so_far.found ++ fs) (none_ahead capture from so_far.ahead none so_far.are_ahead) ∙ append-nil so_far.found

-- after the last frame, with no line pending, the capture is shown, and its frames are counted
pub all_shown : (IsLine : List ℕ → List ℕ → Type 0) (capture : List ℕ) (from count : ℕ) (before now : Option (List ℕ)) → Progress IsLine capture from before now [] count → ((p : ℕ) → from ≤ p → IsFrameAt capture p → ⊥) → Shows IsLine capture before now
all_shown IsLine capture from count before now so_far none = (
  so_far.taken,
  subst (λ fs. AreLinesBy IsLine fs so_far.taken) (sym (found_all IsLine capture from count [] before now so_far none))
      (subst (AreLinesBy IsLine so_far.found) (append-nil so_far.taken) so_far.are_lines),
  so_far.were_taken,
)

pub all_counted : (IsLine : List ℕ → List ℕ → Type 0) (capture : List ℕ) (from count : ℕ) (pending : List ℕ) (before now : Option (List ℕ)) → Progress IsLine capture from before now pending count → ((p : ℕ) → from ≤ p → IsFrameAt capture p → ⊥) → count ≡ length (frames capture)
all_counted IsLine capture from count pending before now so_far none = so_far.counted ∙ ap length (sym (found_all IsLine capture from count pending before now so_far none))
