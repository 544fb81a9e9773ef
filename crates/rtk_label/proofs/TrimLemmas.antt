-- Texts without the blanks at their end.
use Rattle.std.proofs.Common.{◌≡◌, ◌≢◌, ℕ, zero, suc, ◌+◌, ◌-◌, ◌<◌, ◌≤◌, [], ◌∷◌, ◌++◌, List, length, take, take_all, get_or, replicate, slice_get, Some, Bool, true, false, ◌==◌, if◌then◌else◌, ap, sym, arith, refl, ◌∙◌, append_assoc}
use Rattle.std.proofs.lemmas.Bool.Decides.{nat_tests}
use Rattle.std.proofs.lemmas.Grind.{take_at_read}
use Rattle.std.proofs.lemmas.Option.{slice_get-get_or}
use Rattle.std.proofs.lemmas.List.{replicate-append-replicate, append-nil}
use Rattle.rtk_rinex.specs.Columns.{left, IsField}
use Rattle.rtk_rinex.specs.Record.{trim_end, before_trimmed}

trim_end-blank : (xs : List ℕ) → trim_end (xs ++ 32 ∷ []) ≡ trim_end xs
unfolding trim_end
trim_end-blank [] = refl
trim_end-blank (x ∷ xs) = rw (trim_end-blank xs) refl

before_trimmed-solid : (g : ℕ) (ys : List ℕ) → g ≢ 32 → before_trimmed g ys ≡ g ∷ ys
before_trimmed-solid g [] h = grind (arith, nat_tests)
before_trimmed-solid g (y ∷ ys) h = refl

trim_end-one : (g : ℕ) (ys : List ℕ) → g ≢ 32 → trim_end (g ∷ ys) ≡ g ∷ trim_end ys
unfolding trim_end
trim_end-one g ys h = before_trimmed-solid g (trim_end ys) h

more_front : (x : ℕ) (t xs : List ℕ) (g : ℕ) (ys : List ℕ) → trim_end t ≡ xs ++ g ∷ ys → trim_end (x ∷ t) ≡ x ∷ trim_end t
unfolding trim_end
more_front x t [] g ys e = rw e refl
more_front x t (y ∷ xs) g ys e = rw e refl

trim_end-front : (xs : List ℕ) (g : ℕ) (ys : List ℕ) → g ≢ 32 → trim_end (xs ++ g ∷ ys) ≡ xs ++ g ∷ trim_end ys
trim_end-front [] g ys h = trim_end-one g ys h
trim_end-front (x ∷ xs) g ys h = let e = trim_end-front xs g ys h in more_front x (xs ++ g ∷ ys) xs g (trim_end ys) e ∙ ap (λ t. x ∷ t) e

-- one blank less
pub trim_end-step : (xs : List ℕ) (n : ℕ) → 0 < n → n ≤ length xs → get_or xs (n - 1) 0 ≡ 32 → trim_end (take n xs) ≡ trim_end (take (n - 1) xs)
trim_end-step xs n low high e =
    let back : n - 1 + 1 ≡ n = omega arith in
    let inside : n - 1 < length xs = omega arith in
    let t = (take_at_read xs (n - 1) 0 inside).1 in
    rw (rw (back, e) at t) (trim_end-blank (take (n - 1) xs))

-- no blank at the end
pub trim_end-done : (xs : List ℕ) (n : ℕ) → 0 < n → n ≤ length xs → get_or xs (n - 1) 0 ≢ 32 → trim_end (take n xs) ≡ take n xs
unfolding trim_end
trim_end-done xs n low high ne =
    let back : n - 1 + 1 ≡ n = omega arith in
    let inside : n - 1 < length xs = omega arith in
    let t = rw back at ((take_at_read xs (n - 1) 0 inside).1) in
    rw t (trim_end-front (take (n - 1) xs) (get_or xs (n - 1) 0) [] ne)

trim_end-blanks : (m : List ℕ) (k : ℕ) → trim_end (m ++ replicate k 32) ≡ trim_end m
trim_end-blanks m zero = rw (append-nil m) refl
trim_end-blanks m (suc k) =
    let n : suc k ≡ k + 1 = omega arith in
    let more : replicate {A = ℕ} (suc k) 32 ≡ replicate k 32 ++ 32 ∷ [] = ap (λ (n : ℕ). replicate {A = ℕ} n 32) n ∙ sym (replicate-append-replicate {A = ℕ} k 1 32) in
    rw (more, ← append_assoc m (replicate k 32) (32 ∷ [])) (trim_end-blank (m ++ replicate k 32) ∙ trim_end-blanks m k)

last_solid : (m : List ℕ) → 0 < length m → slice_get m (length m - 1) ≢ Some 32 → get_or m (length m - 1) 0 ≢ 32
last_solid m some h e = h (slice_get-get_or m (length m - 1) 0 (omega (arith, some)) ∙ ap Some e)

trimmed-none : (w : ℕ) → trim_end (left w []) ≡ []
unfolding left trim_end
trimmed-none w = trim_end-blanks [] (w - 0)

trimmed-some : (w : ℕ) (f : List ℕ) → 0 < length f → IsField w f → trim_end (left w f) ≡ f
unfolding left
trimmed-some w f some h =
    let all : take (length f) f ≡ f = take_all (length f) f (omega arith) in
    trim_end-blanks f (w - length f) ∙ rw all at (trim_end-done f (length f) some (omega arith) (last_solid f some h.3))

-- a field is found in its columns
pub trimmed-field : (w : ℕ) (f : List ℕ) → IsField w f → trim_end (left w f) ≡ f
trimmed-field w [] h = trimmed-none w
trimmed-field w (x ∷ xs) h = trimmed-some w (x ∷ xs) (omega arith) h

-- ---- a text is its own, and then blanks

split_if : (x : ℕ) (xs : List ℕ) (c : Bool) → (x == 32) ≡ c → xs ≡ replicate (length xs) 32
    → x ∷ xs ≡ (if c then [] else x ∷ []) ++ replicate (length (x ∷ xs) - length (if c then [] else x ∷ [])) 32
split_if x xs true e h =
    let blank : x ≡ 32 = grind (arith, nat_tests) in
    let n : length (x ∷ xs) - 0 ≡ suc (length xs) = omega arith in
    ap (λ (y : ℕ). y ∷ xs) blank ∙ ap (λ (ys : List ℕ). 32 ∷ ys) h ∙ ap (λ (k : ℕ). replicate {A = ℕ} k 32) (sym n)
split_if x xs false e h =
    let n : length (x ∷ xs) - 1 ≡ length xs = omega arith in
    ap (λ (ys : List ℕ). x ∷ ys) (h ∙ ap (λ (k : ℕ). replicate {A = ℕ} k 32) (sym n))

split_more : (x : ℕ) (xs t : List ℕ) → xs ≡ t ++ replicate (length xs - length t) 32
    → x ∷ xs ≡ before_trimmed x t ++ replicate (length (x ∷ xs) - length (before_trimmed x t)) 32
split_more x xs [] e =
    let n : length xs - 0 ≡ length xs = omega arith in
    split_if x xs (x == 32) refl (e ∙ ap (λ (k : ℕ). replicate {A = ℕ} k 32) n)
split_more x xs (y ∷ ys) e =
    let n : length xs - length (y ∷ ys) ≡ length (x ∷ xs) - length (x ∷ y ∷ ys) = omega arith in
    ap (λ (zs : List ℕ). x ∷ zs) (e ∙ ap (λ (k : ℕ). (y ∷ ys) ++ replicate {A = ℕ} k 32) n)

trim_split : (xs : List ℕ) → xs ≡ trim_end xs ++ replicate (length xs - length (trim_end xs)) 32
unfolding trim_end
trim_split [] = refl
trim_split (x ∷ xs) = split_more x xs (trim_end xs) (trim_split xs)

pub trimmed-left : (w : ℕ) (xs : List ℕ) → length xs ≡ w → xs ≡ left w (trim_end xs)
unfolding left
trimmed-left w xs e = trim_split xs ∙ ap (λ (k : ℕ). trim_end xs ++ replicate {A = ℕ} (k - length (trim_end xs)) 32) e
