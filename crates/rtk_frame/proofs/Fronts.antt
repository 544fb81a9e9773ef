-- What a text shows at its front, and how it stays as the text grows.
use Rattle.std.proofs.Common.{◌≡◌, ◌≢◌, ◌⊎◌, inl, inr, ℕ, ◌+◌, ◌<◌, ◌≤◌, Bool, true, false, ◌&&◌, List, [], ◌∷◌, ◌++◌, length, get_or, take, drop, refl, sym, ◌∙◌, ap, arith, length-append, length-drop, nat_lt, nat_le, ◌==◌}
use Rattle.std.proofs.Math.ListN.{get_or-append, drop_of_length-le}
use Rattle.std.proofs.lemmas.List.{take-append-le, drop-append-le}
use Rattle.std.proofs.lemmas.Bool.Decides.{nat_tests}
use Rattle.rtk_frame.specs.Checksum.{crc}
use Rattle.rtk_frame.specs.Frame.{payload_length, payload_of, three_bytes, begins_frame, begins_partial}

-- two texts have the same at their front
pub record Same (s t : List ℕ) : Type 0 where
  pub len : payload_length t ≡ payload_length s
  pub payload : payload_of t ≡ payload_of s
  pub frame : begins_frame t ≡ begins_frame s
  pub partial : begins_partial t ≡ begins_partial s

pub same_length : (s c : List ℕ) → payload_length s + 6 ≤ length s → payload_length (s ++ c) ≡ payload_length s
same_length s c h =
    let e1 : get_or (s ++ c) 1 0 ≡ get_or s 1 0 = get_or-append s c 0 1 (omega arith) in
    let e2 : get_or (s ++ c) 2 0 ≡ get_or s 2 0 = get_or-append s c 0 2 (omega arith) in rw (e1, e2) refl

pub same_payload : (s c : List ℕ) → (n : ℕ) → n + 6 ≤ length s → take n (drop 3 (s ++ c)) ≡ take n (drop 3 s)
same_payload s c n h =
    rw (drop-append-le 3 s c (omega arith)) (take-append-le n (drop 3 s) c (omega (arith, length-drop 3 s)))

same_three : (s c : List ℕ) → 3 ≤ length s → three_bytes (s ++ c) ≡ three_bytes s
same_three s c h =
    let e0 : get_or (s ++ c) 0 0 ≡ get_or s 0 0 = get_or-append s c 0 0 (omega arith) in
    let e1 : get_or (s ++ c) 1 0 ≡ get_or s 1 0 = get_or-append s c 0 1 (omega arith) in
    let e2 : get_or (s ++ c) 2 0 ≡ get_or s 2 0 = get_or-append s c 0 2 (omega arith) in rw (e0, e1, e2) refl

-- the test for a frame, at a length n
by_length : List ℕ → ℕ → Bool
by_length s n = (get_or s 0 0 == 0xD3) && (nat_le (n + 6) (length s) && (crc (take (n + 3) s) == three_bytes (drop (n + 3) s)))

by_length_same : (s c : List ℕ) → (n : ℕ) → n + 6 ≤ length s → by_length (s ++ c) n ≡ by_length s n
unfolding by_length
by_length_same s c n h =
    let e0 : get_or (s ++ c) 0 0 ≡ get_or s 0 0 = get_or-append s c 0 0 (omega arith) in
    let e1 : nat_le (n + 6) (length (s ++ c)) ≡ true = grind (arith, nat_tests, length-append s c) in
    let e2 : nat_le (n + 6) (length s) ≡ true = grind (arith, nat_tests) in
    let e3 : take (n + 3) (s ++ c) ≡ take (n + 3) s = take-append-le (n + 3) s c (omega arith) in
    let e4 : drop (n + 3) (s ++ c) ≡ drop (n + 3) s ++ c = drop-append-le (n + 3) s c (omega arith) in
    let e5 : three_bytes (drop (n + 3) s ++ c) ≡ three_bytes (drop (n + 3) s) = same_three (drop (n + 3) s) c (omega (arith, length-drop (n + 3) s)) in
    rw (e0, e1, e2, e3, e4, e5) refl

begins_by_length : (s : List ℕ) → begins_frame s ≡ by_length s (payload_length s)
unfolding begins_frame by_length
begins_by_length s = refl

pub same_begins : (s c : List ℕ) → payload_length s + 6 ≤ length s → begins_frame (s ++ c) ≡ begins_frame s
same_begins s c h =
    begins_by_length (s ++ c) ∙ ap (by_length (s ++ c)) (same_length s c h) ∙ by_length_same s c (payload_length s) h ∙ sym (begins_by_length s)

-- a text that has all bytes that its length asks for begins with no partial frame
pub whole_not_partial : (s : List ℕ) → payload_length s + 6 ≤ length s → begins_partial s ≡ false
unfolding begins_partial
whole_not_partial s h = grind (arith, nat_tests)

pub same_when_whole : (s c : List ℕ) → payload_length s + 6 ≤ length s → Same s (s ++ c)
same_when_whole s c h =
    let l = same_length s c h in
    record {
      len = l;
      payload = ap (λ n. take n (drop 3 (s ++ c))) l ∙ same_payload s c (payload_length s) h;
      frame = same_begins s c h;
      partial = whole_not_partial (s ++ c) (omega (arith, l, length-append s c)) ∙ sym (whole_not_partial s h);
    }

-- a text that begins with a frame has all bytes that its length asks for
pub frame_is_whole : (s : List ℕ) → begins_frame s ≡ true → payload_length s + 6 ≤ length s
unfolding begins_frame
frame_is_whole s h = grind (arith, nat_tests)

-- a text that begins with no frame and with no partial frame stays so as it grows
other_byte : (x : ℕ) (xs : List ℕ) → (x == 0xD3) ≡ false → (begins_frame (x ∷ xs) ≡ false) × (begins_partial (x ∷ xs) ≡ false)
unfolding begins_frame begins_partial
other_byte x xs h = (rw h refl, rw h refl)

closed_is_whole : (x : ℕ) (xs : List ℕ) → (x == 0xD3) ≡ true → begins_partial (x ∷ xs) ≡ false → payload_length (x ∷ xs) + 6 ≤ length (x ∷ xs)
unfolding begins_partial
closed_is_whole x xs h o =
    let n : nat_lt (length (x ∷ xs)) (payload_length (x ∷ xs) + 6) ≡ false = rw h at o in grind (arith, nat_tests)

neither_by : (x : ℕ) (xs c : List ℕ) (t : Bool) → (x == 0xD3) ≡ t → begins_frame (x ∷ xs) ≡ false → begins_partial (x ∷ xs) ≡ false → (begins_frame (x ∷ (xs ++ c)) ≡ false) × (begins_partial (x ∷ (xs ++ c)) ≡ false)
neither_by x xs c true h f o =
    let same = same_when_whole (x ∷ xs) c (closed_is_whole x xs h o) in (same.frame ∙ f, same.partial ∙ o)
neither_by x xs c false h f o = other_byte x (xs ++ c) h

pub neither_stays : (x : ℕ) (xs c : List ℕ) → begins_frame (x ∷ xs) ≡ false → begins_partial (x ∷ xs) ≡ false → (begins_frame (x ∷ (xs ++ c)) ≡ false) × (begins_partial (x ∷ (xs ++ c)) ≡ false)
neither_stays x xs c f o = neither_by x xs c (x == 0xD3) refl f o

-- a text whose first byte is no preamble begins with no frame and with no partial frame
pub not_preamble : (s : List ℕ) → get_or s 0 0 ≢ 0xD3 → (begins_frame s ≡ false) × (begins_partial s ≡ false)
unfolding begins_frame begins_partial
not_preamble s h = let e : (get_or s 0 0 == 0xD3) ≡ false = grind (arith, nat_tests) in (rw e refl, rw e refl)

pub preamble_partial : (s : List ℕ) → get_or s 0 0 ≡ 0xD3 → length s < payload_length s + 6 → begins_partial s ≡ true
unfolding begins_partial
preamble_partial s h l = grind (arith, nat_tests)

pub preamble_whole : (s : List ℕ) (b : Bool) → get_or s 0 0 ≡ 0xD3 → payload_length s + 6 ≤ length s → (crc (take (payload_length s + 3) s) == three_bytes (drop (payload_length s + 3) s)) ≡ b → begins_frame s ≡ b
unfolding begins_frame
preamble_whole s b h l e =
    let p : (get_or s 0 0 == 0xD3) ≡ true = grind (arith, nat_tests) in
    let w : nat_le (payload_length s + 6) (length s) ≡ true = grind (arith, nat_tests) in rw (p, w) e

pub partial_not_frame : (s : List ℕ) → begins_partial s ≡ true → begins_frame s ≡ false
unfolding begins_partial begins_frame
partial_not_frame s h = grind (arith, nat_tests)

pub partial_or_empty : (s : List ℕ) → 0 < length s → (begins_partial s ≡ true) ⊎ (s ≡ []) → begins_frame s ≡ false
partial_or_empty s l (inl o) = partial_not_frame s o
partial_or_empty s l (inr e) = absurd (omega (arith, ap length e))

pub short_not_frame : (s : List ℕ) → length s < payload_length s + 6 → begins_frame s ≡ false
unfolding begins_frame
short_not_frame s h = let w : nat_le (payload_length s + 6) (length s) ≡ false = grind (arith, nat_tests) in grind (arith, nat_tests)

pub nothing_begins : begins_frame [] ≡ false
unfolding begins_frame
nothing_begins = refl

pub nothing_partial : begins_partial [] ≡ false
unfolding begins_partial
nothing_partial = refl

cut_by : (b : List ℕ) (p from n : ℕ) → ((q : ℕ) → from ≤ q → q < n → begins_frame (drop q b) ≡ false) → from ≤ p → length b ≤ n → (t : Bool) → nat_lt p n ≡ t → begins_frame (drop p b) ≡ false
cut_by b p from n none h l true e = none p h (grind (arith, nat_tests))
cut_by b p from n none h l false e =
    let past : length b ≤ p = grind (arith, nat_tests) in
    ap begins_frame (drop_of_length-le b past) ∙ nothing_begins

-- if no frame stands up to the end, none stands anywhere
pub cut_off : (b : List ℕ) (p from n : ℕ) → ((q : ℕ) → from ≤ q → q < n → begins_frame (drop q b) ≡ false) → from ≤ p → length b ≤ n → begins_frame (drop p b) ≡ false
cut_off b p from n none h l = cut_by b p from n none h l (nat_lt p n) refl
