-- An element of a list for which something holds, and lists in the other order.
use Rattle.std.proofs.Common.{◌≡◌, ◌<◌, ℕ, zero, suc, Bool, true, false, cond, ◌⊎◌, inl, inr, List, [], ◌∷◌, ◌++◌, map, length, get_or, refl, sym, ap, subst, append_assoc, ◌∙◌, arith}
use Rattle.std.specs.Prelude.{All, Any, take_while}
use Rattle.std.specs.List.{filter, list_any}
use Rattle.std.proofs.lemmas.Bool.{or_left, or_right}
use Rattle.std.proofs.lemmas.List.Elements.{All-cons, All-head, All-tail}
use Rattle.std.proofs.lemmas.List.Sums.{take_while-cons}

pub any-here : {X : Type 0} (P : X → Type 0) (x : X) (xs : List X) → P x → Any P (x ∷ xs)
any-here P x xs p = let first : 0 < suc (length xs) = omega arith in (0, x, first, refl, p)

pub any-there : {X : Type 0} (P : X → Type 0) (x : X) (xs : List X) → Any P xs → Any P (x ∷ xs)
any-there P x xs a =
    let before : a.0 < length xs = a.2 in
    let within : suc a.0 < suc (length xs) = omega arith in
    (suc a.0, a.1, within, a.3, a.4)

split-at : {X : Type 0} (P : X → Type 0) (x : X) (xs : List X) (k : ℕ) (y : X) → k < suc (length xs) → get_or (x ∷ xs) k y ≡ y → P y → P x ⊎ Any P xs
split-at P x xs zero y lt is p = inl (subst P (sym is) p)
split-at P x xs (suc k) y lt is p = let within : k < length xs = omega arith in inr (k, y, within, is, p)

-- it is the first one, or one of the others
pub any-split : {X : Type 0} (P : X → Type 0) (x : X) (xs : List X) → Any P (x ∷ xs) → P x ⊎ Any P xs
any-split P x xs a = split-at P x xs a.0 a.1 a.2 a.3 a.4

pub any-none : {X : Type 0} (P : X → Type 0) → Any P [] → ⊥
any-none {X} P a = let below : a.0 < length {A = X} [] = a.2 in omega arith

pub any-weaker : {X : Type 0} (P Q : X → Type 0) (xs : List X) → ((x : X) → P x → Q x) → Any P xs → Any Q xs
any-weaker P Q xs weaker a = (a.0, a.1, a.2, a.3, weaker a.1 a.4)

-- what holds of all elements holds of this one too
pub any-where : {X : Type 0} (Q P : X → Type 0) (xs : List X) → All Q xs → Any P xs → (x : X) × Q x × P x
any-where Q P xs all a = (a.1, subst Q a.3 (all a.0 a.1 a.2), a.4)

pub any-right : {X : Type 0} (P : X → Type 0) (xs ys : List X) → Any P ys → Any P (xs ++ ys)
any-right P [] ys a = a
any-right P (x ∷ xs) ys a = any-there P x (xs ++ ys) (any-right P xs ys a)

pub any-left : {X : Type 0} (P : X → Type 0) (xs ys : List X) → Any P xs → Any P (xs ++ ys)
any-left P [] ys a = absurd (any-none P a)
any-left P (x ∷ xs) ys a = elim (any-split P x xs a) [
  | inl here ↦ any-here P x (xs ++ ys) here
  | inr there ↦ any-there P x (xs ++ ys) (any-left P xs ys there)
]

pub any-middle : {X : Type 0} (P : X → Type 0) (xs : List X) (y : X) (ys : List X) → P y → Any P (xs ++ y ∷ ys)
any-middle P xs y ys p = any-right P xs (y ∷ ys) (any-here P y ys p)

there-cases : {X : Type 0} (P : X → Type 0) (x : X) (xs ys : List X) → Any P xs ⊎ Any P ys → Any P (x ∷ xs) ⊎ Any P ys
there-cases P x xs ys (inl a) = inl (any-there P x xs a)
there-cases P x xs ys (inr a) = inr a

pub any-append : {X : Type 0} (P : X → Type 0) (xs ys : List X) → Any P (xs ++ ys) → Any P xs ⊎ Any P ys
any-append P [] ys a = inr a
any-append P (x ∷ xs) ys a = elim (any-split P x (xs ++ ys) a) [
  | inl here ↦ inl (any-here P x xs here)
  | inr there ↦ there-cases P x xs ys (any-append P xs ys there)
]

-- the list splits at it
pub any-splits : {X : Type 0} (P : X → Type 0) (xs : List X) → Any P xs → (us : List X) × (y : X) × (vs : List X) × (xs ≡ us ++ y ∷ vs) × P y
any-splits P [] a = absurd (any-none P a)
any-splits P (x ∷ xs) a = elim (any-split P x xs a) [
  | inl here ↦ ([], x, xs, refl, here)
  | inr there ↦ let s = any-splits P xs there in (x ∷ s.0, s.1, s.2, ap (λ zs. x ∷ zs) s.3, s.4)
]

pub any-map : {X Y : Type 0} (P : Y → Type 0) (f : X → Y) (xs : List X) → Any (λ x. P (f x)) xs → Any P (map f xs)
any-map P f [] a = absurd (any-none (λ x. P (f x)) a)
any-map P f (x ∷ xs) a = elim (any-split (λ x. P (f x)) x xs a) [
  | inl here ↦ any-here P (f x) (map f xs) here
  | inr there ↦ any-there P (f x) (map f xs) (any-map P f xs there)
]

pub any-unmap : {X Y : Type 0} (P : Y → Type 0) (f : X → Y) (xs : List X) → Any P (map f xs) → Any (λ x. P (f x)) xs
any-unmap P f [] a = absurd (any-none P a)
any-unmap P f (x ∷ xs) a = elim (any-split P (f x) (map f xs) a) [
  | inl here ↦ any-here (λ x. P (f x)) x xs here
  | inr there ↦ any-there (λ x. P (f x)) x xs (any-unmap P f xs there)
]

pub any-if : {X : Type 0} (P : X → Type 0) (b : Bool) (x : X) (xs : List X) → Any P xs → Any P (cond b (x ∷ xs) xs)
any-if P true x xs a = any-there P x xs a
any-if P false x xs a = a

pub any-filter : {X : Type 0} (P : X → Type 0) (test : X → Bool) (xs : List X) → ((x : X) → P x → test x ≡ true) → Any P xs → Any P (filter test xs)
any-filter P test [] passes a = a
any-filter P test (x ∷ xs) passes a = elim (any-split P x xs a) [
  | inl here ↦ subst (λ b. Any P (cond b (x ∷ filter test xs) (filter test xs))) (sym (passes x here)) (any-here P x (filter test xs) here)
  | inr there ↦ any-if P (test x) x (filter test xs) (any-filter P test xs passes there)
]

-- of a first part whose elements all pass
pub any-while : {X : Type 0} (p q : X → Bool) (us vs : List X) → All (λ x. p x ≡ true) us → Any (λ x. q x ≡ true) us → list_any q (take_while p (us ++ vs)) ≡ true
any-while p q [] vs all a = absurd (any-none (λ x. q x ≡ true) a)
any-while p q (u ∷ us) vs all a =
    let rest = take_while p (us ++ vs) in
    let front : take_while p (u ∷ (us ++ vs)) ≡ u ∷ rest = take_while-cons p u (us ++ vs) ∙ ap (λ b. cond b (u ∷ rest) []) (All-head (λ x. p x ≡ true) u us all) in
    ap (λ xs. list_any q xs) front ∙ elim (any-split (λ x. q x ≡ true) u us a) [
      | inl here ↦ or_left (q u) (list_any q rest) here
      | inr there ↦ or_right (q u) (list_any q rest) (any-while p q us vs (All-tail (λ x. p x ≡ true) u us all) there)
    ]

-- ---- lists in the other order

-- the first list in the other order, and then the second one
abbrev pub onto : {X : Type 0} → List X → List X → List X
onto [] ys = ys
onto (x ∷ xs) ys = onto xs (x ∷ ys)

pub onto-append : {X : Type 0} (xs ys zs : List X) → onto (xs ++ ys) zs ≡ onto ys (onto xs zs)
onto-append [] ys zs = refl
onto-append (x ∷ xs) ys zs = onto-append xs ys (x ∷ zs)

pub onto-long : {X : Type 0} (xs ys : List X) → onto xs ys ≡ onto xs [] ++ ys
onto-long [] ys = refl
onto-long (x ∷ xs) ys = onto-long xs (x ∷ ys) ∙ sym (append_assoc (onto xs []) (x ∷ []) ys) ∙ ap (λ zs. zs ++ ys) (sym (onto-long xs (x ∷ [])))

onto-onto : {X : Type 0} (xs ys : List X) → onto (onto xs ys) [] ≡ onto ys xs
onto-onto [] ys = refl
onto-onto (x ∷ xs) ys = onto-onto xs (x ∷ ys)

-- a list by the parts of its other order
pub onto-parts : {X : Type 0} (xs us vs : List X) → onto xs [] ≡ us ++ vs → xs ≡ onto vs [] ++ onto us []
onto-parts xs us vs are = sym (onto-onto xs []) ∙ ap (λ zs. onto zs []) are ∙ onto-append us vs [] ∙ onto-long vs (onto us [])

pub all-onto : {X : Type 0} (P : X → Type 0) (xs ys : List X) → All P xs → All P ys → All P (onto xs ys)
all-onto P [] ys all rest = rest
all-onto P (x ∷ xs) ys all rest = all-onto P xs (x ∷ ys) (All-tail P x xs all) (All-cons P x ys (All-head P x xs all) rest)

any-kept : {X : Type 0} (P : X → Type 0) (xs ys : List X) → Any P ys → Any P (onto xs ys)
any-kept P [] ys a = a
any-kept P (x ∷ xs) ys a = any-kept P xs (x ∷ ys) (any-there P x ys a)

pub any-onto : {X : Type 0} (P : X → Type 0) (xs ys : List X) → Any P xs → Any P (onto xs ys)
any-onto P [] ys a = absurd (any-none P a)
any-onto P (x ∷ xs) ys a = elim (any-split P x xs a) [
  | inl here ↦ any-kept P xs (x ∷ ys) (any-here P x ys here)
  | inr there ↦ any-onto P xs (x ∷ ys) there
]
