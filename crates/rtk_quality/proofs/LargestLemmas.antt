-- The ten largest of things.
use Rattle.std.proofs.Common.{◌≡◌, ◌≤◌, ◌+◌, ℕ, zero, suc, Bool, cond, not, ltb, arith, take, List, [], ◌∷◌, ◌++◌, Option, None, inl, inr, refl, sym, ap, subst, ◌∙◌}
use Rattle.std.specs.Prelude.{sum_by, insert, AllPairs}
use Rattle.std.specs.List.{fold, position_or_len, AllByRecursion}
use Rattle.std.proofs.lemmas.Bool.{cases_Bool, ltb-true, ltb-false}
use Rattle.std.proofs.lemmas.List.{take-take, length-append, append-nil}
use Rattle.std.proofs.lemmas.List.Kept.{AllPairs-cons}
use Rattle.std.proofs.lemmas.List.Sums.{fold-append, sum_by-cons}
use Rattle.std.proofs.lemmas.List.Elements.{All-from_recursion}
use Rattle.rtk_tracking.specs.Epochs.{capped}
use Rattle.rtk_quality.specs.Largest.{list_of, insert_by, largest_first, AreLargest}
use Rattle.rtk_quality.specs.declared.largest.Largest.{Largest}

-- ---- one more thing

-- the place of a thing is behind all that are as large
pub thing-inserted : {T : Type 0} (size : T → ℕ) (x : T) (ys : List T) → insert ys (position_or_len (λ y. ltb (size y) (size x)) ys) x ≡ insert_by size x ys
thing-inserted size x [] = refl
thing-inserted size x (y ∷ ys) =
    let rest : ℕ = position_or_len (λ z. ltb (size z) (size x)) ys in
    let next : 1 + rest ≡ suc rest = omega arith in
    elim (cases_Bool (ltb (size y) (size x))) [
      | inl less ↦
          ap (λ (b : Bool). insert (y ∷ ys) (cond (not b) (1 + rest) 0) x) less
          ∙ sym (ap (λ (b : Bool). cond b (x ∷ y ∷ ys) (y ∷ insert_by size x ys)) less)
      | inr as_large ↦
          ap (λ (b : Bool). insert (y ∷ ys) (cond (not b) (1 + rest) 0) x) as_large ∙ ap (λ (k : ℕ). insert (y ∷ ys) k x) next
          ∙ ap (λ (zs : List _). y ∷ zs) (thing-inserted size x ys)
          ∙ sym (ap (λ (b : Bool). cond b (x ∷ y ∷ ys) (y ∷ insert_by size x ys)) as_large)
    ]

take-front : {T : Type 0} (n : ℕ) (y : T) (ys : List T) → take n (y ∷ take n ys) ≡ take n (y ∷ ys)
take-front zero y ys = refl
take-front (suc n) y ys =
    let fewer : n ≤ suc n = omega arith in
    ap (λ (zs : List _). y ∷ zs) (take-take n (suc n) ys fewer)

-- what lies behind the largest ones does not count
take-inserted : {T : Type 0} (size : T → ℕ) (n : ℕ) (x : T) (ys : List T) → take n (insert_by size x (take n ys)) ≡ take n (insert_by size x ys)
take-inserted size zero x ys = refl
take-inserted size (suc n) x [] = refl
take-inserted size (suc n) x (y ∷ ys) =
    elim (cases_Bool (ltb (size y) (size x))) [
      | inl less ↦
          ap (λ (b : Bool). take (suc n) (cond b (x ∷ y ∷ take n ys) (y ∷ insert_by size x (take n ys)))) less
          ∙ ap (λ (zs : List _). x ∷ zs) (take-front n y ys)
          ∙ sym (ap (λ (b : Bool). take (suc n) (cond b (x ∷ y ∷ ys) (y ∷ insert_by size x ys))) less)
      | inr as_large ↦
          ap (λ (b : Bool). take (suc n) (cond b (x ∷ y ∷ take n ys) (y ∷ insert_by size x (take n ys)))) as_large
          ∙ ap (λ (zs : List _). y ∷ zs) (take-inserted size n x ys)
          ∙ sym (ap (λ (b : Bool). take (suc n) (cond b (x ∷ y ∷ ys) (y ∷ insert_by size x ys))) as_large)
    ]

largest-more : {T : Type 0} (size : T → ℕ) (xs : List T) (x : T) → largest_first size (xs ++ x ∷ []) ≡ insert_by size x (largest_first size xs)
largest-more size xs x = fold-append (λ ys z. insert_by size z ys) [] xs (x ∷ [])

-- a thing more is kept
pub thing-kept : {T : Type 0} (size : T → ℕ) (x : T) (old new : Largest T) (all : List T) → AreLargest size old all → new.count ≡ capped (old.count + 1)
    → new.things.items ≡ take 10 (insert_by size x old.things.items) → AreLargest size new (all ++ x ∷ [])
thing-kept size x old new all are counted kept =
    let longer = length-append all (x ∷ []) in
    let was = are.count in
    record {
      count = omega (arith, longer, was, counted);
      largest = kept ∙ ap (λ (ys : List _). take 10 (insert_by size x ys)) are.largest ∙ take-inserted size 10 x (largest_first size all)
          ∙ ap (λ (ys : List _). take 10 ys) (sym (largest-more size all x));
    }

pub none-kept : {T : Type 0} (size : T → ℕ) (old : Largest T) (all : List T) (x : Option T) → x ≡ None → AreLargest size old all → AreLargest size old (all ++ list_of x)
none-kept size old all x none are =
    subst (λ (xs : List _). AreLargest size old xs) (sym (ap (λ (o : Option _). all ++ list_of o) none ∙ append-nil all)) are

-- ---- laws

sum-inserted : {T : Type 0} (size f : T → ℕ) (x : T) (ys : List T) → sum_by f (insert_by size x ys) ≡ sum_by f ys + f x
sum-inserted size f x [] =
    let one = sum_by-cons f x [] in
    omega (arith, one)
sum-inserted size f x (y ∷ ys) =
    let all = sum_by-cons f y ys in
    elim (cases_Bool (ltb (size y) (size x))) [
      | inl less ↦
          let is : sum_by f (insert_by size x (y ∷ ys)) ≡ sum_by f (x ∷ y ∷ ys) = ap (λ (b : Bool). sum_by f (cond b (x ∷ y ∷ ys) (y ∷ insert_by size x ys))) less in
          let more = sum_by-cons f x (y ∷ ys) in
          omega (arith, is, all, more)
      | inr as_large ↦
          let is : sum_by f (insert_by size x (y ∷ ys)) ≡ sum_by f (y ∷ insert_by size x ys) = ap (λ (b : Bool). sum_by f (cond b (x ∷ y ∷ ys) (y ∷ insert_by size x ys))) as_large in
          let more = sum_by-cons f y (insert_by size x ys) in
          let rest = sum-inserted size f x ys in
          omega (arith, is, all, more, rest)
    ]

sum-onto : {T : Type 0} (size f : T → ℕ) (xs ys : List T) → sum_by f (fold (λ zs x. insert_by size x zs) ys xs) ≡ sum_by f ys + sum_by f xs
sum-onto size f [] ys = omega arith
sum-onto size f (x ∷ xs) ys =
    let rest = sum-onto size f xs (insert_by size x ys) in
    let here = sum-inserted size f x ys in
    let both = sum_by-cons f x xs in
    omega (arith, rest, here, both)

-- each thing is among those that are the largest first
pub sum-kept : {T : Type 0} (size f : T → ℕ) (xs : List T) → sum_by f (largest_first size xs) ≡ sum_by f xs
sum-kept size f xs = let is = sum-onto size f xs [] in omega (arith, is)

-- no thing is larger than this
abbrev AreWithin : {T : Type 0} → (T → ℕ) → ℕ → List T → Type 0
AreWithin size most ys = AllByRecursion (λ y. size y ≤ most) ys

abbrev Descend : {T : Type 0} → (T → ℕ) → List T → Type 0
Descend size [] = Unit {0}
Descend size (y ∷ ys) = AreWithin size (size y) ys × Descend size ys

within-more : {T : Type 0} (size : T → ℕ) (few most : ℕ) (ys : List T) → few ≤ most → AreWithin size few ys → AreWithin size most ys
within-more size few most [] le are = tt
within-more size few most (y ∷ ys) le are =
    let first = are.0 in
    (omega (arith, le, first), within-more size few most ys le are.1)

inserted-within : {T : Type 0} (size : T → ℕ) (most : ℕ) (x : T) (ys : List T) → size x ≤ most → AreWithin size most ys → AreWithin size most (insert_by size x ys)
inserted-within size most x [] le are = (le, tt)
inserted-within size most x (y ∷ ys) le are =
    elim (cases_Bool (ltb (size y) (size x))) [
      | inl less ↦ subst (λ (b : Bool). AreWithin size most (cond b (x ∷ y ∷ ys) (y ∷ insert_by size x ys))) (sym less) (le, are)
      | inr as_large ↦
          subst (λ (b : Bool). AreWithin size most (cond b (x ∷ y ∷ ys) (y ∷ insert_by size x ys))) (sym as_large)
          (are.0, inserted-within size most x ys le are.1)
    ]

inserted-descend : {T : Type 0} (size : T → ℕ) (x : T) (ys : List T) → Descend size ys → Descend size (insert_by size x ys)
inserted-descend size x [] descend = (tt, tt)
inserted-descend size x (y ∷ ys) descend =
    elim (cases_Bool (ltb (size y) (size x))) [
      | inl less ↦
          let smaller : size y ≤ size x = let lt = ltb-true (size y) (size x) less in omega (arith, lt) in
          subst (λ (b : Bool). Descend size (cond b (x ∷ y ∷ ys) (y ∷ insert_by size x ys))) (sym less)
          ((smaller, within-more size (size y) (size x) ys smaller descend.0), descend)
      | inr as_large ↦
          subst (λ (b : Bool). Descend size (cond b (x ∷ y ∷ ys) (y ∷ insert_by size x ys))) (sym as_large)
          (inserted-within size (size y) x ys (ltb-false (size y) (size x) as_large) descend.0, inserted-descend size x ys descend.1)
    ]

onto-descend : {T : Type 0} (size : T → ℕ) (xs ys : List T) → Descend size ys → Descend size (fold (λ zs x. insert_by size x zs) ys xs)
onto-descend size [] ys descend = descend
onto-descend size (x ∷ xs) ys descend = onto-descend size xs (insert_by size x ys) (inserted-descend size x ys descend)

pairs : {T : Type 0} (size : T → ℕ) (ys : List T) → Descend size ys → AllPairs (λ a b. size b ≤ size a) ys
pairs size [] descend = λ i j d lt within. absurd (omega (arith, within))
pairs size (y ∷ ys) descend =
    AllPairs-cons (λ a b. size b ≤ size a) y ys (All-from_recursion (λ x. size x ≤ size y) ys descend.0) (pairs size ys descend.1)

pub largest-are-first : {T : Type 0} (size : T → ℕ) (xs : List T) → AllPairs (λ a b. size b ≤ size a) (largest_first size xs)
largest-are-first size xs = pairs size (largest_first size xs) (onto-descend size xs [] tt)
