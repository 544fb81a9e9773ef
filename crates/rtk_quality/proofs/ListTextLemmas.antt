-- Lists of entries under a heading, or as an array.
use Rattle.std.proofs.Common.{◌≡◌, ◌++◌, ℕ, List, length, sym, ap, ◌∙◌}
use Rattle.rtk_quality.specs.Lists.{closed, opening, list_text}
use Rattle.rtk_quality.specs.declared.form.Form.{Form}

-- a whole list: it begins, its entries follow, and it ends
pub list-is : (form : Form) (heading key entries t0 t1 t2 t3 : List ℕ) (list place : ℕ)
    → t1 ≡ t0 ++ opening form heading key → list ≡ length t0 → place ≡ length t1 → t2 ≡ t1 ++ entries
    → ((before first rest : List ℕ) → length before ≡ list → length (before ++ first) ≡ place → t2 ≡ (before ++ first) ++ rest → t3 ≡ before ++ closed form first rest)
    → t3 ≡ t0 ++ list_text form heading key entries
unfolding list_text
list-is form heading key entries t0 t1 t2 t3 list place e1 at from e2 closes =
    let first : List ℕ = opening form heading key in
    closes t0 first entries (sym at) (ap (λ (t : List ℕ). length t) (sym e1) ∙ sym from) (e2 ∙ ap (λ (t : List ℕ). t ++ entries) e1)
