use Rattle.std.proofs.Common.{◌∙◌, ◌++◌, ◌∷◌, [], ℕ, List, ap, replicate, get_or}
use Rattle.std.proofs.lemmas.List.{take_more, replicate_more}
use Rattle.rtk_label.proofs.fields.blank_count.Goals as goal

pub loop-k-preserved : goal.loop-k-preserved
loop-k-preserved c =
    let l = c.loop-k in
    take_more c.args.columns.now l.k 0 c.loop-k-test.true
    ∙ ap (λ (t : List ℕ). t ++ get_or c.args.columns.now l.k 0 ∷ []) l.invariant ∙ ap (λ (x : ℕ). replicate l.k 32 ++ x ∷ []) c.if-columns-k-ne32.false ∙ replicate_more l.k 32
