use Rattle.std.proofs.Common.{◌∙◌, ◌++◌, ℕ, List, ap, sym, arith, take, drop, replicate}
use Rattle.std.proofs.lemmas.List.{take-replicate}
use Rattle.rtk_label.proofs.ChoiceLemmas.{if_filled}
use Rattle.rtk_label.proofs.columns.put_plain.Goals as goal

pub returns-else-field-eq0-clause-items : goal.returns-else-field-eq0-clause-items
returns-else-field-eq0-clause-items c =
    c.add-else-field-eq0.ensures.items ∙ ap (λ (xs : List ℕ). c.args.out.now.items ++ xs) (take-replicate {X = ℕ} c.args.width 80 32 c.requires.small
    ∙ sym (if_filled c.args.field.now (take c.args.width (drop c.args.from c.args.line.now)) (replicate c.args.width 32) (omega (arith, c.if-field-eq0.false))))
