-- Blanks before a text.
use Rattle.std.proofs.Common.{◌≡◌, ◌≤◌, ◌+◌, ◌-◌, ◌++◌, ℕ, suc, List, [], ◌∷◌, length, replicate, refl, ap, ◌∙◌, arith}
use Rattle.std.specs.Prelude.{insert}
use Rattle.std.proofs.lemmas.List.{length-append}
use Rattle.std.proofs.lemmas.List.Edits.{insert-append_right}
use Rattle.rtk_quality.specs.Forms.{padded}

insert-first : (xs : List ℕ) (x : ℕ) → insert xs 0 x ≡ x ∷ xs
insert-first [] x = refl
insert-first (y ∷ xs) x = refl

-- one blank more
pub blank-more : (k at : ℕ) (before value mid after : List ℕ) → length before ≡ at → mid ≡ before ++ (replicate k 32 ++ value) → after ≡ insert mid at 32
    → after ≡ before ++ (replicate (k + 1) 32 ++ value)
blank-more k at before value mid after place so_far more =
    let blanks : List ℕ = replicate k 32 ++ value in
    let same : at ≤ at = omega arith in
    let none : at - at ≡ 0 = omega arith in
    let next : suc k ≡ k + 1 = omega arith in
    more ∙ ap (λ (t : List ℕ). insert t at 32) so_far ∙ insert-append_right before blanks at at 32 place same
    ∙ ap (λ (n : ℕ). before ++ insert blanks n 32) none ∙ ap (λ (t : List ℕ). before ++ t) (insert-first blanks 32)
    ∙ ap (λ (n : ℕ). before ++ (replicate n 32 ++ value)) next

-- as many blanks as the column is wider
pub padded-is : (k width at size : ℕ) (before value text after : List ℕ) → length before ≡ at → text ≡ before ++ value → size ≡ length text
    → k ≡ width - (size - at) → after ≡ before ++ (replicate k 32 ++ value) → after ≡ before ++ padded width value
padded-is k width at size before value text after place is long blanks end =
    let both : length text ≡ length before + length value = ap (λ (t : List ℕ). length t) is ∙ length-append before value in
    let wide : k ≡ width - length value = omega (arith, both, place, long, blanks) in
    end ∙ ap (λ (n : ℕ). before ++ (replicate n 32 ++ value)) wide
