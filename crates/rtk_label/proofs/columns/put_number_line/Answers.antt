use Rattle.std.proofs.Common.{◌∙◌, ◌++◌, ◌∷◌, [], ℕ, List, ap, codes}
use Rattle.rtk_label.proofs.NumberLemmas.{number_text}
use Rattle.rtk_label.proofs.columns.put_number_line.Goals as goal

pub returns-then-number-gt0-clause-items : goal.returns-then-number-gt0-clause-items
returns-then-number-gt0-clause-items c =
    c.add-then-number-gt0.ensures.items ∙ ap (λ (xs : List ℕ). xs ++ (codes "MARKER NUMBER       " ++ 10 ∷ [])) (c.add.ensures.items ∙ ap (λ (xs : List ℕ). xs ++ codes "                                        ") c.put_left.ensures.items)
    ∙ number_text c.args.out.now.items c.args.number.now c.requires.fits c.if-number-gt0.true
