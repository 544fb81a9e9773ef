-- Lists of lines, one for each number.
use Rattle.std.proofs.Common.{◌≡◌, ◌<◌, ◌+◌, ℕ, zero, suc, List, [], ◌∷◌, ◌++◌, length, take, drop, get_or, drop-cons, add-one, ap, sym, ◌∙◌, append_assoc, refl, arith}
use Rattle.std.proofs.lemmas.List.{append-nil, take_more}
use Rattle.std.proofs.lemmas.Grind.{flat_map-append}
use Rattle.std.specs.Prelude.{flat_map}
use Rattle.std.specs.List.{range_with_len}

range-suc : (a n : ℕ) → range_with_len a (suc n) ≡ range_with_len a n ++ (a + n) ∷ []
range-suc a zero =
    let e : a ≡ a + 0 = omega arith in
    ap (λ k. k ∷ []) e
range-suc a (suc n) =
    let e : (a + 1) + n ≡ a + suc n = omega arith in
    ap (λ t. a ∷ t) (range-suc (a + 1) n ∙ ap (λ k. range_with_len (a + 1) n ++ k ∷ []) e)

range-more : (a n : ℕ) → range_with_len a (n + 1) ≡ range_with_len a n ++ (a + n) ∷ []
range-more a n =
    let e : n + 1 ≡ suc n = omega arith in
    ap (λ m. range_with_len a m) e ∙ range-suc a n

-- the lines of one number more
pub put-more : (f : ℕ → List ℕ) (a n k : ℕ) (before mid after : List ℕ) → k ≡ a + n → mid ≡ before ++ flat_map f (range_with_len a n) → after ≡ mid ++ f k
    → after ≡ before ++ flat_map f (range_with_len a (n + 1))
put-more f a n k before mid after at so_far more =
    let lines = flat_map f (range_with_len a n) in
    let longer : flat_map f (range_with_len a (n + 1)) ≡ lines ++ f k =
    ap (λ t. flat_map f t) (range-more a n) ∙ flat_map-append f (range_with_len a n) ((a + n) ∷ [])
    ∙ ap (λ t. lines ++ t) (append-nil (f (a + n))) ∙ ap (λ t. lines ++ f t) (sym at) in
    more ∙ ap (λ t. t ++ f k) so_far ∙ append_assoc before lines (f k) ∙ ap (λ t. before ++ t) (sym longer)

-- the same lines of each number
pub lines-agree : (f g : ℕ → List ℕ) (a n : ℕ) → ((k : ℕ) → k < a + n → f k ≡ g k) → flat_map f (range_with_len a n) ≡ flat_map g (range_with_len a n)
lines-agree f g a zero agree = refl
lines-agree f g a (suc n) agree =
    let here : a < a + suc n = omega arith in
    ap (λ t. t ++ flat_map f (range_with_len (a + 1) n)) (agree a here)
    ∙ ap (λ t. g a ++ t) (lines-agree f g (a + 1) n (λ k lt. let further : k < a + suc n = omega arith in agree k further))

-- the lines of one number more of a list
pub put-taken : (f : ℕ → List ℕ) (xs : List ℕ) (i d : ℕ) (before mid after : List ℕ) → i < length xs → mid ≡ before ++ flat_map f (take i xs) → after ≡ mid ++ f (get_or xs i d)
    → after ≡ before ++ flat_map f (take (i + 1) xs)
put-taken f xs i d before mid after within so_far more =
    let lines = flat_map f (take i xs) in
    let x = get_or xs i d in
    let longer : flat_map f (take (i + 1) xs) ≡ lines ++ f x =
    ap (λ t. flat_map f t) (take_more xs i d within) ∙ flat_map-append f (take i xs) (x ∷ []) ∙ ap (λ t. lines ++ t) (append-nil (f x)) in
    more ∙ ap (λ t. t ++ f x) so_far ∙ append_assoc before lines (f x) ∙ ap (λ t. before ++ t) (sym longer)

-- a text, and then another one
pub and-then : (l0 l1 l2 a b : List ℕ) → l1 ≡ l0 ++ a → l2 ≡ l1 ++ b → l2 ≡ l0 ++ (a ++ b)
and-then l0 l1 l2 a b first second = second ∙ ap (λ t. t ++ b) first ∙ append_assoc l0 a b

-- ---- what is left of a list

-- from a place on: the entry there, and the rest
pub cut-at : {X : Type 0} (xs : List X) (i : ℕ) (d : X) → i < length xs → drop i xs ≡ get_or xs i d ∷ drop (i + 1) xs
cut-at xs i d lt = drop-cons xs i d lt ∙ ap (λ (k : ℕ). get_or xs i d ∷ drop k xs) (sym (add-one i))
