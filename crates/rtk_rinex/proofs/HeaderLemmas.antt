-- Codes that are unlike each other, and texts one after another.
use Rattle.std.proofs.Common.{◌≡◌, ◌≢◌, ◌⊎◌, ⊎_elim, inl, inr, ℕ, ◌+◌, ◌<◌, List, ◌++◌, append_assoc, slice_index_or, arith, ◌∙◌, ap}
use Rattle.std.proofs.lemmas.Bool.Decides.{leb_tells}
use Rattle.rtk_obs.specs.declared.code.Code.{Code}

pub below-or-at : (i k : ℕ) → k < i + 1 → (k < i) ⊎ (k ≡ i)
below-or-at i k h = ⊎_elim (λ l. inr (omega (arith, l.1, h))) (λ r. inl r.1) (leb_tells i k)

-- one more code, unlike all before it
pub unlike-more : (cs : List Code) (i : ℕ) → ((j k : ℕ) (d : Code) → j < k → k < i → slice_index_or cs j d ≢ slice_index_or cs k d)
    → ((k : ℕ) (d : Code) → k < i → slice_index_or cs k d ≢ slice_index_or cs i d)
    → (j k : ℕ) (d : Code) → j < k → k < i + 1 → slice_index_or cs j d ≢ slice_index_or cs k d
unlike-more cs i old new j k d jk ki =
    ⊎_elim (λ below. old j k d jk below) (λ at. let lt : j < i = omega (arith, jk, at) in λ e. new j d lt (e ∙ ap (λ (n : ℕ). slice_index_or cs n d) at)) (below-or-at i k ki)

-- four texts after another
pub append-four : (o a b c d : List ℕ) → (((o ++ a) ++ b) ++ c) ++ d ≡ o ++ (((a ++ b) ++ c) ++ d)
append-four o a b c d = simp append_assoc

pub append-five : (o a b c d e : List ℕ) → ((((o ++ a) ++ b) ++ c) ++ d) ++ e ≡ o ++ ((((a ++ b) ++ c) ++ d) ++ e)
append-five o a b c d e = simp append_assoc

-- the parts of a header one after another
pub parts-in_row : (v m k a b c d p q t u f g z : List ℕ)
    → (((((((((((v ++ m) ++ k) ++ a) ++ b) ++ c) ++ d) ++ p) ++ q) ++ t) ++ u) ++ f) ++ g ++ z
    ≡ (((((((v ++ m) ++ k) ++ a) ++ b) ++ c) ++ d) ++ (p ++ q)) ++ t ++ (((u ++ f) ++ g) ++ z)
parts-in_row v m k a b c d p q t u f g z = simp append_assoc
