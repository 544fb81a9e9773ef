-- Codes that are found, one after another.
use Rattle.std.proofs.Common.{◌≡◌, ◌<◌, ◌+◌, ◌-◌, ◌∙◌, ℕ, Bool, true, false, cond, List, [], ◌∷◌, ◌++◌, drop, get_or, append_assoc, sym, ap}
use Rattle.std.specs.Prelude.{filter}
use Rattle.rtk_obs.specs.declared.any_code.AnyCode.{AnyCode}
use Rattle.rtk_obs.specs.AnyCode.{all_any_codes}
use Rattle.rtk_survey.proofs.PublicLaws.{cut-at}

-- a code that is found is kept
pub any-code-kept : (found : AnyCode → Bool) (codes : List AnyCode) (i : ℕ) (d : AnyCode) (whole : List AnyCode) → i < 69 → found (get_or all_any_codes i d) ≡ true
    → codes ++ filter found (drop i all_any_codes) ≡ whole → (codes ++ get_or all_any_codes i d ∷ []) ++ filter found (drop (i + 1) all_any_codes) ≡ whole
any-code-kept found codes i d whole within kept so_far =
    let c = get_or all_any_codes i d in
    let rest = filter found (drop (i + 1) all_any_codes) in
    let first : filter found (drop i all_any_codes) ≡ c ∷ rest = ap (λ cs. filter found cs) (cut-at all_any_codes i d within) ∙ ap (λ b. cond b (c ∷ rest) rest) kept in
    append_assoc codes (c ∷ []) rest ∙ ap (λ cs. codes ++ cs) (sym first) ∙ so_far

pub any-code-left : (found : AnyCode → Bool) (codes : List AnyCode) (i : ℕ) (d : AnyCode) (whole : List AnyCode) → i < 69 → found (get_or all_any_codes i d) ≡ false
    → codes ++ filter found (drop i all_any_codes) ≡ whole → codes ++ filter found (drop (i + 1) all_any_codes) ≡ whole
any-code-left found codes i d whole within left so_far =
    let c = get_or all_any_codes i d in
    let rest = filter found (drop (i + 1) all_any_codes) in
    let first : filter found (drop i all_any_codes) ≡ rest = ap (λ cs. filter found cs) (cut-at all_any_codes i d within) ∙ ap (λ b. cond b (c ∷ rest) rest) left in
    ap (λ cs. codes ++ cs) (sym first) ∙ so_far
