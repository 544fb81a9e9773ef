use Rattle.std.proofs.Common.{◌≡◌, ◌≤◌, ◌∙◌, ◌-◌, ◌++◌, ℕ, List, length, ap, arith, append_assoc, take, replicate}
use Rattle.std.proofs.lemmas.List.{take-replicate}
use Rattle.rtk_label.proofs.columns.put_right.Goals as goal

pub returns-clause-items : goal.returns-clause-items
returns-clause-items c =
    let out = c.args.out.now.items in
    let text = c.args.text.now in
    let n = c.args.width - length text in
    let fits : n ≤ 80 = omega arith in
    let cut : take n (replicate {A = ℕ} 80 32) ≡ replicate n 32 = take-replicate {X = ℕ} n 80 32 fits in
    c.add-2.ensures.items ∙ ap (λ (xs : List ℕ). xs ++ text) (c.add.ensures.items ∙ ap (λ (xs : List ℕ). out ++ xs) cut) ∙ append_assoc out (replicate n 32) text
