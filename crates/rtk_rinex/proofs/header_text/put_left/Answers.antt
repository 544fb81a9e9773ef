use Rattle.std.proofs.Common.{◌≡◌, ◌≤◌, ◌∙◌, ◌-◌, ◌++◌, ℕ, List, length, ap, arith, append_assoc, take, replicate}
use Rattle.std.proofs.lemmas.List.{take-replicate}
use Rattle.rtk_rinex.specs.Columns.{left}
use Rattle.rtk_rinex.proofs.header_text.put_left.Goals as goal

pub returns-clause-items : goal.returns-clause-items
unfolding left
returns-clause-items g c =
    let out = c.args.out.now.items in
    let text = c.args.text.now in
    let n = c.args.width - length text in
    let fits : n ≤ 80 = omega arith in
    let blanks : List ℕ = replicate n 32 in
    let cut : take n (replicate {A = ℕ} 80 32) ≡ blanks = take-replicate {X = ℕ} n 80 32 fits in
    c.append-2.ensures.items ∙ ap (λ (xs : List ℕ). xs ++ take n (replicate {A = ℕ} 80 32)) c.append.ensures.items
    ∙ append_assoc out text (take n (replicate {A = ℕ} 80 32)) ∙ ap (λ (xs : List ℕ). out ++ (text ++ xs)) cut
