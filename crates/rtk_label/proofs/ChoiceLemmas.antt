-- A text that is chosen by whether a field is blank.
use Rattle.std.proofs.Common.{◌<◌, ◌⊎◌, inl, inr, ℕ, List, [], ◌∷◌, length, Bool, true, false, ◌==◌, if◌then◌else◌, ◌≡◌, ◌∙◌, arith, refl, sym}
use Rattle.std.proofs.lemmas.Bool.Decides.{nat_tests}

pick_none : (t a b : List ℕ) (c : Bool) → (length t == 0) ≡ c → length t ≡ 0 → (if c then a else b) ≡ a
pick_none t a b true e h = refl
pick_none t a b false e h = absurd (let not : ¬ (length t ≡ 0) = grind (arith, nat_tests) in not h)

pick_some : (t a b : List ℕ) (c : Bool) → (length t == 0) ≡ c → 0 < length t → (if c then a else b) ≡ b
pick_some t a b false e h = refl
pick_some t a b true e h = absurd (let none : length t ≡ 0 = grind (arith, nat_tests) in omega (arith, none, h))

pub if_blank : (t a b : List ℕ) → length t ≡ 0 → (if length t == 0 then a else b) ≡ a
if_blank t a b h = pick_none t a b (length t == 0) refl h

pub if_filled : (t a b : List ℕ) → 0 < length t → (if length t == 0 then a else b) ≡ b
if_filled t a b h = pick_some t a b (length t == 0) refl h

pub none_is : (t : List ℕ) → length t ≡ 0 → t ≡ []
none_is [] h = refl
none_is (x ∷ xs) h = absurd (omega arith)

pub blank_or_filled : (t : List ℕ) → (length t ≡ 0) ⊎ (0 < length t)
blank_or_filled [] = inl refl
blank_or_filled (x ∷ xs) = inr (omega arith)

-- a test and its opposite
pub clash : (b : Bool) → b ≡ false → b ≡ true → ⊥
clash b e f = let apart : false ≡ true = sym e ∙ f in cc
