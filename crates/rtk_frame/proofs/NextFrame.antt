-- Places at which there is no frame, and the payload of one.
use Rattle.std.proofs.Common.{◌≡◌, ◌≢◌, ℕ, ◌+◌, ◌-◌, ◌<◌, ◌≤◌, Bool, true, false, List, length, get_or, take, drop, refl, sym, ◌∙◌, ap, subst, arith, length-take, length-drop, get_or-drop, nat_lt}
use Rattle.std.proofs.lemmas.Bool.Decides.{nat_tests}
use Rattle.std.proofs.lemmas.List.{take_all, drop-drop}
use Rattle.rtk_frame.specs.Frame.{begins_frame, payload_length, payload_of, IsFrameAt}
use Rattle.rtk_frame.specs.Steps.Scanning.{IsFront}
use Rattle.rtk_frame.specs.declared.frame.Front.{Front}
use Rattle.rtk_frame.specs.declared.frame.Front.TheVariants.{Whole, Partial, Other}
use Rattle.rtk_frame.proofs.Fronts.{not_preamble, partial_or_empty, frame_is_whole, cut_off}

-- from one place up to another there is no frame
abbrev pub NoneFrom : List ℕ → ℕ → ℕ → Type 0
NoneFrom b from n = (p : ℕ) → from ≤ p → p < n → begins_frame (drop p b) ≡ false

-- the rest of a slice
pub rest_of : (b : List ℕ) (n : ℕ) → take (length b - n) (drop n b) ≡ drop n b
rest_of b n = take_all (length b - n) (drop n b) (omega (arith, length-drop n b))

none_by : (b : List ℕ) (from n m p : ℕ) (t : Bool) → NoneFrom b from n → ((i : ℕ) → n ≤ i → i < m → get_or b i 0 ≢ 0xD3) → nat_lt p n ≡ t → from ≤ p → p < m → begins_frame (drop p b) ≡ false
none_by b from n m p true none others t l k = none p l (grind (arith, nat_tests))
none_by b from n m p false none others t l k =
    let here : get_or (drop p b) 0 0 ≡ get_or b p 0 = get_or-drop p b 0 0 ∙ ap (λ i. get_or b i 0) (let e : p + 0 ≡ p = omega arith in e) in
    (not_preamble (drop p b) (λ e. others p (grind (arith, nat_tests)) k (sym here ∙ e))).0

-- and none at the bytes that follow, up to the next preamble
pub none_to : (b : List ℕ) (from n m : ℕ) → NoneFrom b from n → ((i : ℕ) → n ≤ i → i < m → get_or b i 0 ≢ 0xD3) → NoneFrom b from m
none_to b from n m none others p l k = none_by b from n m p (nat_lt p n) none others refl l k

next_by : (b : List ℕ) (from n : ℕ) → NoneFrom b from n → begins_frame (drop n b) ≡ false → (p : ℕ) (t : Bool) → nat_lt p n ≡ t → from ≤ p → p < n + 1 → begins_frame (drop p b) ≡ false
next_by b from n none here p true t l m = none p l (grind (arith, nat_tests))
next_by b from n none here p false t l m = let e : n ≡ p = grind (arith, nat_tests) in ap (λ k. begins_frame (drop k b)) (sym e) ∙ here

-- and none at the next place
pub none_next : (b : List ℕ) (from n : ℕ) → NoneFrom b from n → begins_frame (drop n b) ≡ false → NoneFrom b from (n + 1)
none_next b from n none here p l m = next_by b from n none here p (nat_lt p n) refl l m

pub front_by : (s : List ℕ) (f : Front) → 0 < length s → IsFront s f → ((n : ℕ) → f ≡ Whole n → ⊥) → begins_frame s ≡ false
front_by s (Whole n) l h other = absurd (other n refl)
front_by s Partial l h other = partial_or_empty s l h.1
front_by s Other l h other = h.1

-- what is at a place, seen from a start before it
pub place_of : (b : List ℕ) (start n : ℕ) (f : Front) → start ≤ n → IsFront (drop (n - start) (take (length b - start) (drop start b))) f → IsFront (drop n b) f
place_of b start n f l h =
    let e : start + (n - start) ≡ n = omega arith in
    subst (λ (s : List ℕ). IsFront s f) (ap (drop (n - start)) (rest_of b start) ∙ drop-drop (n - start) start b ∙ ap (λ k. drop k b) e) h

-- if what is at the place is no whole frame, no frame begins there
pub none_at_place : (b : List ℕ) (n : ℕ) (f : Front) → n < length b → IsFront (drop n b) f → ((m : ℕ) → f ≡ Whole m → ⊥) → begins_frame (drop n b) ≡ false
none_at_place b n f l h other = front_by (drop n b) f (omega (arith, length-drop n b)) h other

-- a frame ends inside the text
pub frame_within : (b : List ℕ) (n : ℕ) → IsFrameAt b n → n + (payload_length (drop n b) + 6) ≤ length b
frame_within b n h = omega (arith, frame_is_whole (drop n b) h, length-drop n b)

-- the payload, as a part of the text
pub payload_is : (b : List ℕ) (n m : ℕ) (payload : List ℕ) → payload ≡ take m (drop 3 (drop n b)) → m ≡ payload_length (drop n b) → payload ≡ payload_of (drop n b)
payload_is b n m payload h e = h ∙ ap (λ j. take j (drop 3 (drop n b))) e

pub length_payload_at : (b : List ℕ) (n : ℕ) → IsFrameAt b n → length (payload_of (drop n b)) ≡ payload_length (drop n b)
length_payload_at b n h =
    omega (arith, frame_is_whole (drop n b) h, length-take (payload_length (drop n b)) (drop 3 (drop n b)), length-drop 3 (drop n b))

pub no_frame : (b : List ℕ) (from n p : ℕ) → NoneFrom b from n → from ≤ p → length b ≤ n → IsFrameAt b p → ⊥
no_frame b from n p none l m s = let e = cut_off b p from n none l m in cc

pub none_before : (b : List ℕ) (from n p : ℕ) → NoneFrom b from n → from ≤ p → p < n → IsFrameAt b p → ⊥
none_before b from n p none l m s = let e = none p l m in cc

-- a frame that was found is the next one
pub is_next : (b payload : List ℕ) (from n m place : ℕ) → place ≡ n → payload ≡ take m (drop 3 (drop n b)) → m ≡ payload_length (drop n b) → from ≤ n → IsFrameAt b n → NoneFrom b from n → (from ≤ place) × IsFrameAt b place × (payload ≡ payload_of (drop place b)) × ((p : ℕ) → from ≤ p → p < place → IsFrameAt b p → ⊥)
is_next b payload from n m place e h k l f none = rw e (l, f, payload_is b n m payload h k, λ p i j. none_before b from n p none i j)

-- and ends inside the text
pub found_within : (b payload : List ℕ) (n m place : ℕ) → place ≡ n → payload ≡ take m (drop 3 (drop n b)) → m ≡ payload_length (drop n b) → IsFrameAt b n → place + (length payload + 6) ≤ length b
found_within b payload n m place e h k f = omega (arith, e, ap length (payload_is b n m payload h k), length_payload_at b n f, frame_within b n f)
