use Rattle.std.proofs.Common.{◌++◌, ℕ, List, ap, ◌∙◌, codes, decimal, ne_eqb}
use Rattle.rtk_captures.specs.Lists.{name_line}
use Rattle.rtk_survey.proofs.PublicLaws.{three-parts}
use Rattle.rtk_plan.proofs.left_out.put_numberless.Goals as goal

pub returns : goal.returns
returns c =
    let words = codes " refused M1 - " in
    let line : List ℕ = name_line (codes " in ") c.args.name.now in
    rw (ne_eqb c.args.count 0 c.if-count-eq0.false) (
    c.in_ok-put_name_line.ensures
    ∙ ap (λ (l : List ℕ). l ++ line) c.in_ok-put_named.ensures
    ∙ three-parts c.args.lines.now.items words (decimal c.args.count) line)
