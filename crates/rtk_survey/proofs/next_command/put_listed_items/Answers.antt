use Rattle.std.proofs.Common.{◌≡◌, ◌-◌, ◌++◌, ◌∙◌, ℕ, List, [], ◌∷◌, length, take, drop, codes, append_assoc, refl, sym, ap}
use Rattle.std.proofs.lemmas.Bool.{eqb-false}
use Rattle.rtk_survey.specs.NextCommand.{listed_items}
use Rattle.rtk_survey.proofs.FrameLemmas.{rest-is}
use Rattle.rtk_survey.proofs.next_command.put_listed_items.Goals as goal

listed-some : (xs : List ℕ) → (length xs ≡ 0 → ⊥) → codes " --channels " ++ take (length xs - 1) (drop 1 xs) ≡ listed_items xs
listed-some [] some = absurd (some refl)
listed-some (x ∷ xs) some = ap (λ (t : List ℕ). codes " --channels " ++ t) (rest-is 1 (x ∷ xs))

pub returns : goal.returns
returns c =
    let xs : List ℕ = c.args.items.now in
    let before : List ℕ = c.args.text.now.items in
    let rest : List ℕ = take (length xs - 1) (drop 1 xs) in
    c.in_ok-extend_from_slice-2.ensures.items
    ∙ ap (λ (t : List ℕ). t ++ rest) c.in_ok-extend_from_slice.ensures.items
    ∙ append_assoc before (codes " --channels ") rest
    ∙ ap (λ (t : List ℕ). before ++ t) (listed-some xs (eqb-false (length xs) 0 (sym c.is_empty.ensures ∙ c.if-is_empty.false)))
