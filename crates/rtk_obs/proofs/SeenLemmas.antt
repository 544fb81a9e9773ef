-- Marks of the numbers that came.
use Rattle.std.proofs.Common.{◌≡◌, ◌∙◌, ℕ, ◌<◌, ◌||◌, Bool, true, false, nat_eq, List, [], ◌∷◌, ◌++◌, length, map, get_or, get_or-set_same, get_or-set_other, set, refl, sym, ap, arith}
use Rattle.std.specs.List.{list_any}
use Rattle.std.proofs.lemmas.Bool.{ne_eqb}
use Rattle.std.proofs.lemmas.Bool.Decides.{nat_tests}
use Rattle.std.proofs.lemmas.List.Folds.{list_any-append}
use Rattle.rtk_obs.specs.Steps.GlonassFields.{HasSeenNumbers}
use Rattle.rtk_obs.proofs.TracksLemmas.{by_eq}

or_true : (b : Bool) → (b || (true || false)) ≡ true
or_true true = refl
or_true false = refl

or_false : (b : Bool) → (b || (false || false)) ≡ b
or_false true = refl
or_false false = refl

abbrev any_of : ℕ → List ℕ → Bool
any_of n numbers = list_any (λ m. nat_eq m n) numbers

-- one number more
any-snoc : (ns : List ℕ) (k n : ℕ) (b : Bool) → nat_eq k n ≡ b → any_of n (ns ++ k ∷ []) ≡ (any_of n ns || (b || false))
any-snoc ns k n b h = list_any-append (λ m. nat_eq m n) ns (k ∷ []) ∙ ap (λ (t : Bool). any_of n ns || (t || false)) h

same-number : (k n : ℕ) → n ≡ k → nat_eq k n ≡ true
same-number k n e = grind (arith, nat_tests)

-- it was not marked before
pub seen-new : (seen : List Bool) (ns : List ℕ) (k : ℕ) → length seen ≡ 64 → k < 64 → HasSeenNumbers seen ns → HasSeenNumbers (set seen k true) (ns ++ k ∷ [])
seen-new seen ns k len small h n below =
    let inside : k < length seen = omega (arith, len, small) in
    by_eq n k
    (λ same. ap (λ (i : ℕ). get_or (set seen k true) i false) same ∙ get_or-set_same seen k true false inside ∙ sym (any-snoc ns k n true (same-number k n same) ∙ or_true (any_of n ns)))
    (λ other. get_or-set_other seen k n true false other ∙ h n below ∙ sym (any-snoc ns k n false (ne_eqb k n (λ e. other (sym e))) ∙ or_false (any_of n ns)))

-- it was marked before
pub seen-again : (seen : List Bool) (ns : List ℕ) (k : ℕ) → get_or seen k false ≡ true → HasSeenNumbers seen ns → HasSeenNumbers seen (ns ++ k ∷ [])
seen-again seen ns k is h n below =
    by_eq n k
    (λ same. ap (λ (i : ℕ). get_or seen i false) same ∙ is ∙ sym (any-snoc ns k n true (same-number k n same) ∙ or_true (any_of n ns)))
    (λ other. h n below ∙ sym (any-snoc ns k n false (ne_eqb k n (λ e. other (sym e))) ∙ or_false (any_of n ns)))

-- a number among those of some values
pub any-map : {X : Type 0} (number : X → ℕ) (n : ℕ) (xs : List X) → any_of n (map number xs) ≡ list_any (λ x. nat_eq (number x) n) xs
any-map number n [] = refl
any-map number n (x ∷ xs) = ap (λ (b : Bool). nat_eq (number x) n || b) (any-map number n xs)
