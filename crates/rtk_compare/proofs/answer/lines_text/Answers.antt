use Rattle.std.proofs.Common.{◌++◌, ◌∷◌, [], ℕ, List, append_assoc, ap}
use Rattle.rtk_compare.specs.declared.difference.Class.TheVariants.{Lost, Changed, Explained}
use Rattle.rtk_compare.specs.declared.form.Form.TheVariants.{Lines}
use Rattle.rtk_compare.specs.Answer.{class_counts, class_lines, lines_text}
use Rattle.rtk_compare.proofs.answer.lines_text.Goals as goal

pub returns : goal.returns
unfolding lines_text
returns c =
    let f = c.args.findings.now in
    rw (c.in_ok-put_class_lines-3.ensures, c.in_ok-put_class_lines-2.ensures, c.in_ok-put_class_lines.ensures, c.in_ok-push.ensures.items, c.in_ok-put_counts.ensures, c.new-text.ensures.items)
    (ap (λ (x : List ℕ). (x ++ class_lines Changed f.changed) ++ class_lines Explained f.explained) (append_assoc (class_counts Lines f) (10 ∷ []) (class_lines Lost f.lost)))
