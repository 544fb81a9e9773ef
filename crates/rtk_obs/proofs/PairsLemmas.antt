-- Facts of all elements of a list, and relations that hold of each element and each later one.
use Rattle.std.proofs.Common.{[], ◌∷◌, ◌++◌, List, arith, true, false, Bool, cond}
use Rattle.std.specs.Prelude.{filter}
use Rattle.std.specs.List.{AllByRecursion, AllPairs}
use Rattle.std.proofs.lemmas.List.Elements.{All-from_recursion}
use Rattle.std.proofs.lemmas.List.Kept.{AllPairs-cons}

pub all_from : {X : Type 0} (P Q : X → Type 0) → ((x : X) → P x → Q x) → (xs : List X) → AllByRecursion P xs → AllByRecursion Q xs
all_from P Q f [] a = tt
all_from P Q f (x ∷ xs) a = (f x a.0, all_from P Q f xs a.1)

pub all_append : {X : Type 0} (P : X → Type 0) (xs ys : List X) → AllByRecursion P xs → AllByRecursion P ys → AllByRecursion P (xs ++ ys)
all_append P [] ys a b = b
all_append P (x ∷ xs) ys a b = (a.0, all_append P xs ys a.1 b)

all_if : {X : Type 0} (P : X → Type 0) (b : Bool) (x : X) (rest : List X) → P x → AllByRecursion P rest → AllByRecursion P (cond b (x ∷ rest) rest)
all_if P true x rest p a = (p, a)
all_if P false x rest p a = a

pub all_filter : {X : Type 0} (P : X → Type 0) (p : X → Bool) (xs : List X) → AllByRecursion P xs → AllByRecursion P (filter p xs)
all_filter P p [] a = tt
all_filter P p (x ∷ xs) a = all_if P (p x) x (filter p xs) a.0 (all_filter P p xs a.1)

-- R holds of each element and each later one
abbrev pub Pairs : {X : Type 0} → (X → X → Type 0) → List X → Type 0
Pairs R [] = Unit {0}
Pairs R (x ∷ xs) = AllByRecursion (R x) xs × Pairs R xs

pub all_pairs : {X : Type 0} (R : X → X → Type 0) (xs : List X) → Pairs R xs → AllPairs R xs
all_pairs R [] p = λ i j d before inside. absurd (omega (arith, before, inside))
all_pairs R (x ∷ xs) p = AllPairs-cons R x xs (All-from_recursion (R x) xs p.0) (all_pairs R xs p.1)

pub pairs-append : {X : Type 0} (R : X → X → Type 0) (xs ys : List X) → Pairs R xs → Pairs R ys → AllByRecursion (λ x. AllByRecursion (R x) ys) xs → Pairs R (xs ++ ys)
pairs-append R [] ys p q a = q
pairs-append R (x ∷ xs) ys p q a = (all_append (R x) xs ys p.0 a.0, pairs-append R xs ys p.1 q a.1)

pairs_if : {X : Type 0} (R : X → X → Type 0) (b : Bool) (x : X) (rest : List X) → AllByRecursion (R x) rest → Pairs R rest → Pairs R (cond b (x ∷ rest) rest)
pairs_if R true x rest a p = (a, p)
pairs_if R false x rest a p = p

pub pairs_filter : {X : Type 0} (R : X → X → Type 0) (p : X → Bool) (xs : List X) → Pairs R xs → Pairs R (filter p xs)
pairs_filter R p [] h = tt
pairs_filter R p (x ∷ xs) h = pairs_if R (p x) x (filter p xs) (all_filter (R x) p xs h.0) (pairs_filter R p xs h.1)
