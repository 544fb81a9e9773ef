-- The place of a frame, one frame after another.
use Rattle.std.proofs.Common.{◌≡◌, ◌≤◌, ℕ, zero, suc, ◌+◌, ◌-◌, List, [], ◌∷◌, ◌++◌, map, length, take, drop, Option, None, Some, inl, inr, refl, sym, ap, subst, ◌∙◌, add-one, length-append, length-drop, arith}
use Rattle.std.specs.Borrow.{Bor}
use Rattle.std.specs.Prelude.{option_map}
use Rattle.std.proofs.lemmas.Grind.{common_steps}
use Rattle.std.proofs.lemmas.List.{length-map}
use Rattle.rtk_frame.specs.Frames.{Frame, end_of, frames, final_frames, final_from, pending, pending_from, shifted, IsFirst}
use Rattle.rtk_frame.specs.Scanner.{FedAnswer, RestAnswer}
use Rattle.rtk_frame.specs.ScannerView.{ScannerView}
use Rattle.rtk_frame.specs.Stream.{with_more}
use Rattle.rtk_frame.specs.declared.scanner.Answer.TheVariants.{Found}
use Rattle.rtk_frame.proofs.PublicLaws.{shifted_twice, found_of_rest, found_in_piece, final_cut, frames_cut, is_pending, pending_cut, with_more-nil, with_more-with_more}
use Rattle.rtk_survey.specs.Counting.{shown_count}
use Rattle.rtk_survey.specs.FramePlaces.{place_after, IsPlaceOfFrame}
use Rattle.rtk_survey.specs.Steps.Looking.{place_if_last, LooksThrough}
use Rattle.rtk_survey.specs.declared.frame_place.Looking.{Looking}
use Rattle.rtk_survey.proofs.FrameLemmas.{rest-is}

-- ---- is it the one that is looked for?

pub not_last : (n place : ℕ) → place_if_last n place ≡ None → n ≡ suc (n - 1)
not_last zero place is = cc
not_last (suc n) place is = omega arith

pub is_last : (n place told : ℕ) → place_if_last n place ≡ Some told → (n ≡ 0) × (place ≡ told)
is_last zero place told is = (refl, cc)
is_last (suc n) place told is = cc

-- ---- the next frame

-- of frames fs from a base on the first one has a payload of so many bytes, and then come the frames gs from the next base on
pub record FrameThen (fs gs : List Frame) (base next size : ℕ) : Type 0 where
  pub here : place_after 0 (map (shifted base) fs) ≡ Some (next - (size + 6))
  pub later : (n : ℕ) → place_after (suc n) (map (shifted base) fs) ≡ place_after n (map (shifted next) gs)
  pub count : length fs ≡ length gs + 1

steps-by : (f : Frame) (fs gs : List Frame) (payload : List ℕ) (base next : ℕ) → fs ≡ f ∷ map (shifted (end_of f)) gs → f.payload ≡ payload → base + end_of f ≡ next
    → FrameThen fs gs base next (length payload)
steps-by f fs gs payload base next first same ends =
    let size = ap (λ (xs : List ℕ). length xs) same in
    let place : base + f.place ≡ next - (length payload + 6) = omega (arith, size, ends) in
    record {
      here = ap (λ (hs : List Frame). place_after 0 (map (shifted base) hs)) first ∙ ap Some place;
      later = λ n.
          ap (λ (hs : List Frame). place_after (suc n) (map (shifted base) hs)) first
          ∙ ap (λ (hs : List Frame). place_after n hs) (shifted_twice base (end_of f) gs)
          ∙ ap (λ (k : ℕ). place_after n (map (shifted k) gs)) ends;
      count = ap (λ (hs : List Frame). length hs) first ∙ ap suc (length-map gs (shifted (end_of f))) ∙ sym (add-one (length gs));
    }

-- of the pending bytes and the bytes of a piece from a place on
pub steps_in_piece : (p s1 s2 payload : List ℕ) (at used fed : ℕ) → at ≤ length p → used ≤ length (drop at p) → length s1 ≤ fed
    → IsFirst (final_frames (s1 ++ take used (drop at p))) (s1 ++ take used (drop at p)) payload s2
    → FrameThen (final_frames (s1 ++ drop at p)) (final_frames (s2 ++ drop (at + used) p)) (fed - length s1) (fed + used - length s2) (length payload) × (length s2 ≤ fed + used)
steps_in_piece p s1 s2 payload at used fed within few fits first =
    let r = found_in_piece s1 (drop at p) used payload s2 few first in
    let d : drop used (drop at p) ≡ drop (at + used) p = grind (arith, common_steps) in
    let f : Frame = r.0 in
    let whole : end_of f + length s2 ≡ length s1 + used = r.3 in (
      steps-by f (final_frames (s1 ++ drop at p)) (final_frames (s2 ++ drop (at + used) p)) payload (fed - length s1) (fed + used - length s2)
          (r.1 ∙ ap (λ (t : List ℕ). f ∷ map (shifted (end_of f)) (final_frames (s2 ++ t))) d) r.2 (omega (arith, whole, fits)),
      omega (arith, whole, fits),
    )

-- of the pending bytes at the end
pub steps_at_end : (s1 s2 payload : List ℕ) (fed : ℕ) → length s1 ≤ fed → IsFirst (frames s1) s1 payload s2
    → FrameThen (frames s1) (frames s2) (fed - length s1) (fed - length s2) (length payload) × (length s2 ≤ fed)
steps_at_end s1 s2 payload fed fits first =
    let r = found_of_rest s1 payload s2 first in
    let f : Frame = r.0 in
    let whole : end_of f + length s2 ≡ length s1 = r.3 in
    (steps-by f (frames s1) (frames s2) payload (fed - length s1) (fed - length s2) r.1 r.2 (omega (arith, whole, fits)), omega (arith, whole, fits))

-- ---- the scanner's answers

pub fed-frame : (p s1 : List ℕ) (at used fed : ℕ) (payload : Bor (List ℕ)) (scan : ScannerView) → at ≤ length p → used ≤ length (take (length p - at) (drop at p)) → length s1 ≤ fed
    → FedAnswer s1 (take (length p - at) (drop at p)) used (Found payload) scan
    → FrameThen (final_frames (s1 ++ drop at p)) (final_frames (scan.pending ++ drop (at + used) p)) (fed - length s1) (fed + used - length scan.pending) (length payload.now)
    × (length scan.pending ≤ fed + used)
fed-frame p s1 at used fed payload scan within some fits answer =
    let a = subst (λ (q : List ℕ). FedAnswer s1 q used (Found payload) scan) (rest-is at p) answer in
    let few : used ≤ length (drop at p) = subst (λ (q : List ℕ). used ≤ length q) (rest-is at p) some in
    steps_in_piece p s1 scan.pending payload.now at used fed within few fits a.0

pub left-frame : (s1 : List ℕ) (fed : ℕ) (payload : Bor (List ℕ)) (scan : ScannerView) → length s1 ≤ fed → RestAnswer s1 (Some payload) scan
    → FrameThen (frames s1) (frames scan.pending) (fed - length s1) (fed - length scan.pending) (length payload.now) × (length scan.pending ≤ fed)
left-frame s1 fed payload scan fits answer = steps_at_end s1 scan.pending payload.now fed fits answer.0

-- the next frame, if it is the one that is looked for, and if it is not
pub place_here : (fs gs : List Frame) (base next size n told : ℕ) → FrameThen fs gs base next size → place_if_last n (next - (size + 6)) ≡ Some told
    → place_after n (map (shifted base) fs) ≡ Some told
place_here fs gs base next size n told then is =
    let last = is_last n (next - (size + 6)) told is in
    ap (λ (k : ℕ). place_after k (map (shifted base) fs)) last.0 ∙ then.here ∙ ap Some last.1

pub place_later : (fs gs : List Frame) (base next size n : ℕ) → FrameThen fs gs base next size → place_if_last n (next - (size + 6)) ≡ None
    → place_after n (map (shifted base) fs) ≡ place_after (n - 1) (map (shifted next) gs)
place_later fs gs base next size n then is =
    ap (λ (k : ℕ). place_after k (map (shifted base) fs)) (not_last n (next - (size + 6)) is) ∙ then.later (n - 1)

-- ---- frames behind others

pub place_of_others : (fs gs : List Frame) (n k : ℕ) → n ≡ k + length fs → place_after n (fs ++ gs) ≡ place_after k gs
place_of_others [] gs n k is = ap (λ (m : ℕ). place_after m gs) (omega (arith, is))
place_of_others (f ∷ fs) gs n k is =
    let e : n ≡ suc (k + length fs) = omega (arith, is) in
    ap (λ (m : ℕ). place_after m (f ∷ (fs ++ gs))) e ∙ place_of_others fs gs (k + length fs) k refl

pub place_of_first : (fs gs : List Frame) (n place : ℕ) → place_after n fs ≡ Some place → place_after n (fs ++ gs) ≡ Some place
place_of_first [] gs n place is = cc
place_of_first (f ∷ fs) gs zero place is = is
place_of_first (f ∷ fs) gs (suc n) place is = place_of_first fs gs n place is

-- ---- a source that is read piece by piece

pub pending_shorter : (t : List ℕ) → length (pending t) ≤ length t
pending_shorter t = elim (is_pending t) [
  | inl none ↦ let size = ap (λ (xs : List ℕ). length xs) none.1 in omega (arith, size)
  | inr some ↦ let size = ap (λ (xs : List ℕ). length xs) some.3 in let left = length-drop some.0 t in omega (arith, size, left)
]

-- a source gave some bytes, so many frames of them came, and so many are still to come
pub record HasLooked (given_old given_new : Option (List ℕ)) (n before fed : ℕ) (waiting : List ℕ) : Type 0 where
  pub bytes : List ℕ
  pub given : given_new ≡ with_more given_old bytes
  pub count : before + length (final_frames bytes) ≡ n
  pub size : fed ≡ length bytes
  pub waits : waiting ≡ pending bytes

pub looked-nothing : (given : Option (List ℕ)) (n : ℕ) (waiting : List ℕ) → waiting ≡ [] → HasLooked given given n n 0 waiting
unfolding final_from pending_from
looked-nothing given n waiting none = record { bytes = []; given = sym (with_more-nil given); count = omega arith; size = refl; waits = none }

pub looked-piece : (given_0 given_1 given_2 : Option (List ℕ)) (n : ℕ) (old new : Looking) (waiting waits more : List ℕ)
    → HasLooked given_0 given_1 n old.before old.fed waiting → given_2 ≡ with_more given_1 more → LooksThrough old waiting more new waits
    → HasLooked given_0 given_2 n new.before new.fed waits
looked-piece given_0 given_1 given_2 n old new waiting waits more h gives through =
    let t = h.bytes in
    let later : List Frame = final_frames (pending t ++ more) in
    let before = through.before in
    let came = ap (λ (xs : List ℕ). length (final_frames (xs ++ more))) h.waits in
    let both = ap (λ (fs : List Frame). length fs) (final_cut t more) in
    let parts = length-append (final_frames t) (map (shifted (length t - length (pending t))) later) in
    let moved = length-map later (shifted (length t - length (pending t))) in
    let count = h.count in
    let size = h.size in
    let fed = through.fed in
    let bytes = length-append t more in
    record {
      bytes = t ++ more;
      given = gives ∙ ap (λ (known : Option (List ℕ)). with_more known more) h.given ∙ with_more-with_more given_0 t more;
      count = omega (arith, before, came, both, parts, moved, count);
      size = omega (arith, size, fed, bytes);
      waits = through.pending ∙ ap (λ (xs : List ℕ). pending (xs ++ more)) h.waits ∙ sym (pending_cut t more);
    }

pub looked-found : (given_0 given_1 given_2 : Option (List ℕ)) (n before fed place : ℕ) (waiting more : List ℕ)
    → HasLooked given_0 given_1 n before fed waiting → given_2 ≡ with_more given_1 more
    → place_after before (map (shifted (fed - length waiting)) (final_frames (waiting ++ more))) ≡ Some place
    → IsPlaceOfFrame n given_0 given_2 (Some (shown_count place))
looked-found given_0 given_1 given_2 n before fed place waiting more h gives found =
    let t : List ℕ = h.bytes in
    let base : ℕ = length t - length (pending t) in
    let fs : List Frame = map (shifted base) (final_frames (pending t ++ more)) in
    let here : place_after before fs ≡ Some place =
    ap (λ (xs : List ℕ). place_after before (map (shifted (length t - length xs)) (final_frames (xs ++ more)))) (sym h.waits)
    ∙ ap (λ (k : ℕ). place_after before (map (shifted (k - length waiting)) (final_frames (waiting ++ more)))) (sym h.size)
    ∙ found in
    let final : place_after n (final_frames (t ++ more)) ≡ Some place =
    ap (λ (gs : List Frame). place_after n gs) (final_cut t more) ∙ place_of_others (final_frames t) fs n before (sym h.count) ∙ here in
    let rest : List Frame = map (shifted (length (t ++ more) - length (pending (t ++ more)))) (frames (pending (t ++ more))) in
    let all : place_after n (frames (t ++ more)) ≡ Some place =
    ap (λ (gs : List Frame). place_after n gs) (frames_cut (t ++ more)) ∙ place_of_first (final_frames (t ++ more)) rest n place final in (
      t ++ more,
      gives ∙ ap (λ (known : Option (List ℕ)). with_more known more) h.given ∙ with_more-with_more given_0 t more,
      ap (λ (o : Option ℕ). option_map shown_count o) (sym all),
    )

pub looked-end : (given_0 given_1 given_2 : Option (List ℕ)) (n before fed : ℕ) (found : Option ℕ) (waiting : List ℕ)
    → HasLooked given_0 given_1 n before fed waiting → given_2 ≡ with_more given_1 []
    → found ≡ place_after before (map (shifted (fed - length waiting)) (frames waiting))
    → IsPlaceOfFrame n given_0 given_2 (option_map shown_count found)
looked-end given_0 given_1 given_2 n before fed found waiting h gives is =
    let t : List ℕ = h.bytes in
    let fs : List Frame = map (shifted (length t - length (pending t))) (frames (pending t)) in
    let here : found ≡ place_after before fs =
    is ∙ ap (λ (k : ℕ). place_after before (map (shifted (k - length waiting)) (frames waiting))) h.size
    ∙ ap (λ (xs : List ℕ). place_after before (map (shifted (length t - length xs)) (frames xs))) h.waits in
    let all : place_after n (frames t) ≡ place_after before fs =
    ap (λ (gs : List Frame). place_after n gs) (frames_cut t) ∙ place_of_others (final_frames t) fs n before (sym h.count) in
    (t, gives ∙ with_more-nil given_1 ∙ h.given, ap (λ (o : Option ℕ). option_map shown_count o) (here ∙ sym all))
