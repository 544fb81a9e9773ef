use Rattle.std.proofs.Common.{◌++◌, ℕ, List, ap, ◌∙◌, codes, decimal}
use Rattle.rtk_captures.specs.Lists.{name_line}
use Rattle.rtk_plan.specs.LeftOut.{refused_number_line}
use Rattle.rtk_survey.proofs.PublicLaws.{five-parts}
use Rattle.rtk_plan.proofs.left_out.put_refused.Goals as goal

pub returns : goal.returns
unfolding refused_number_line
returns c =
    let old : List ℕ = c.args.lines.now.items in
    let words : List ℕ = c.args.words.now in
    let count : List ℕ = decimal c.args.count in
    let line : List ℕ = name_line (codes " in ") c.args.name.now in
    c.in_ok-put_name_line.ensures
    ∙ ap (λ (l : List ℕ). l ++ line) (c.in_ok-put_named-2.ensures ∙ ap (λ (l : List ℕ). (l ++ codes " ") ++ count) (c.in_ok-put_named.ensures
    ∙ ap (λ (n : ℕ). (old ++ words) ++ decimal n) c.from.ensures))
    ∙ five-parts old words (decimal c.args.number) (codes " ") count line
