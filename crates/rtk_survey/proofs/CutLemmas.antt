-- The first bytes of a text, and what stands behind them.
use Rattle.std.proofs.Common.{◌≡◌, ◌-◌, ◌+◌, ℕ, zero, suc, List, [], ◌∷◌, ◌++◌, length, take, drop, min, refl, sym, ap, ◌∙◌, arith}

pub take-none : (n : ℕ) → ◌≡◌ {A = List ℕ} (take n []) []
take-none zero = refl
take-none (suc n) = refl

drop-none : (n : ℕ) → ◌≡◌ {A = List ℕ} (drop n []) []
drop-none zero = refl
drop-none (suc n) = refl

pub take-again : (n : ℕ) (xs ys : List ℕ) → take n (take n xs ++ ys) ≡ take n (xs ++ ys)
take-again zero xs ys = refl
take-again (suc n) [] ys = refl
take-again (suc n) (x ∷ xs) ys = ap (λ (t : List ℕ). x ∷ t) (take-again n xs ys)

-- as many as there are, at most so many
pub take-few : (n most : ℕ) (xs : List ℕ) → n ≡ min (length xs) most → take n xs ≡ take most xs
take-few n most [] is = take-none n ∙ sym (take-none most)
take-few n zero (x ∷ xs) is = let none : n ≡ 0 = omega (arith, is) in ap (λ (k : ℕ). take k (x ∷ xs)) none
take-few n (suc most) (x ∷ xs) is =
    let more : n ≡ suc (n - 1) = omega (arith, is) in
    let less : n - 1 ≡ min (length xs) most = omega (arith, is) in
    ap (λ (k : ℕ). take k (x ∷ xs)) more ∙ ap (λ (t : List ℕ). x ∷ t) (take-few (n - 1) most xs less)

pub drop-few : (n most : ℕ) (xs : List ℕ) → n ≡ min (length xs) most → drop n xs ≡ drop most xs
drop-few n most [] is = drop-none n ∙ sym (drop-none most)
drop-few n zero (x ∷ xs) is = let none : n ≡ 0 = omega (arith, is) in ap (λ (k : ℕ). drop k (x ∷ xs)) none
drop-few n (suc most) (x ∷ xs) is =
    let more : n ≡ suc (n - 1) = omega (arith, is) in
    let less : n - 1 ≡ min (length xs) most = omega (arith, is) in
    ap (λ (k : ℕ). drop k (x ∷ xs)) more ∙ drop-few (n - 1) most xs less

take-past : (old xs : List ℕ) (room n : ℕ) → n ≡ length old + room → take n (old ++ xs) ≡ old ++ take room xs
take-past [] xs room n is = let all : n ≡ room = omega (arith, is) in ap (λ (k : ℕ). take k xs) all
take-past (x ∷ old) xs room n is =
    let more : n ≡ suc (n - 1) = omega (arith, is) in
    let less : n - 1 ≡ length old + room = omega (arith, is) in
    ap (λ (k : ℕ). take k (x ∷ (old ++ xs))) more ∙ ap (λ (t : List ℕ). x ∷ t) (take-past old xs room (n - 1) less)

-- a piece is added as far as there is room
pub head-more : (old piece : List ℕ) (room count : ℕ) → length old + room ≡ 512 → count ≡ min (length piece) room → old ++ take count piece ≡ take 512 (old ++ piece)
head-more old piece room count whole is =
    ap (λ (t : List ℕ). old ++ t) (take-few count room piece is) ∙ sym (take-past old piece room 512 (sym whole))
