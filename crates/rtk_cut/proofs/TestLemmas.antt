-- Tests and lists.
use Rattle.std.proofs.Common.{◌≡◌, ◌≢◌, ◌<◌, ◌+◌, ℕ, zero, suc, Bool, true, false, ◌&&◌, ◌||◌, eqb, List, [], ◌∷◌, map, length, refl, ap, ◌∙◌, arith}
use Rattle.std.specs.Prelude.{All, AllPairs}
use Rattle.std.specs.List.{range_with_len, list_any}
use Rattle.std.proofs.lemmas.Bool.{eq-eqb, ne_eqb}
use Rattle.std.proofs.lemmas.List.Elements.{All-head, All-tail}

pub or-moved : (a b c : Bool) → ((a || b) || c) ≡ (b || (a || c))
or-moved true true c = refl
or-moved true false c = refl
or-moved false true c = refl
or-moved false false c = refl

pub or-nothing : (a : Bool) → (a || false) ≡ a
or-nothing true = refl
or-nothing false = refl

pub and-nothing : (a : Bool) → (a && false) ≡ false
and-nothing true = refl
and-nothing false = refl

pub and-all : (a : Bool) → (a && true) ≡ a
and-all true = refl
and-all false = refl

-- a test fails that wants two numbers that differ to be the same
pub differ-and : (a b : ℕ) (p : Bool) → a ≢ b → (eqb a b && p) ≡ false
differ-and a b p differ = ap (λ t. t && p) (ne_eqb a b differ)

pub same-and : (a b : ℕ) (p : Bool) → a ≡ b → (eqb a b && p) ≡ p
same-and a b p same = ap (λ t. t && p) (eq-eqb a b same)

-- maps of functions that agree on the list
pub map-agree : {X Y : Type 0} (f g : X → Y) (xs : List X) → All (λ x. f x ≡ g x) xs → map f xs ≡ map g xs
map-agree f g [] agree = refl
map-agree f g (x ∷ xs) agree =
    let here : f x ≡ g x = All-head (λ x. f x ≡ g x) x xs agree in
    let rest : map f xs ≡ map g xs = map-agree f g xs (All-tail (λ x. f x ≡ g x) x xs agree) in
    ap (λ y. y ∷ map f xs) here ∙ ap (λ ys. g x ∷ ys) rest

-- and below a number
pub map-agree_below : {Y : Type 0} (f g : ℕ → Y) (a n : ℕ) → ((k : ℕ) → k < a + n → f k ≡ g k) → map f (range_with_len a n) ≡ map g (range_with_len a n)
map-agree_below f g a zero agree = refl
map-agree_below f g a (suc n) agree =
    let here : a < a + suc n = omega arith in
    let rest : map f (range_with_len (a + 1) n) ≡ map g (range_with_len (a + 1) n) =
    map-agree_below f g (a + 1) n (λ k lt. let further : k < a + suc n = omega arith in agree k further) in
    ap (λ y. y ∷ map f (range_with_len (a + 1) n)) (agree a here) ∙ ap (λ ys. g a ∷ ys) rest

-- tests that agree on the list
pub any-agree : {X : Type 0} (p q : X → Bool) (xs : List X) → All (λ x. p x ≡ q x) xs → list_any p xs ≡ list_any q xs
any-agree p q [] agree = refl
any-agree p q (x ∷ xs) agree =
    let here : p x ≡ q x = All-head (λ x. p x ≡ q x) x xs agree in
    let rest : list_any p xs ≡ list_any q xs = any-agree p q xs (All-tail (λ x. p x ≡ q x) x xs agree) in
    ap (λ b. b || list_any p xs) here ∙ ap (λ b. q x || b) rest

-- the pairs of a list are those of its first element and those of the others
pub pairs-head : {X : Type 0} (R : X → X → Type 0) (x : X) (xs : List X) → AllPairs R (x ∷ xs) → All (R x) xs
pairs-head R x xs pairs = λ k d lt.
    let first : 0 < suc k = omega arith in
    let within : suc k < suc (length xs) = omega arith in
    pairs 0 (suc k) d first within

pub pairs-tail : {X : Type 0} (R : X → X → Type 0) (x : X) (xs : List X) → AllPairs R (x ∷ xs) → AllPairs R xs
pairs-tail R x xs pairs = λ i j d lt within.
    let later : suc i < suc j = omega arith in
    let inside : suc j < suc (length xs) = omega arith in
    pairs (suc i) (suc j) d later inside
