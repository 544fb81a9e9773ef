use Rattle.std.proofs.Common.{◌++◌, ap, ◌∙◌, codes}
use Rattle.rtk_captures.specs.SpanLine.{neighbours_text}
use Rattle.rtk_survey.proofs.PublicLaws.{three-parts}
use Rattle.rtk_captures.proofs.span_line.put_week.Goals as goal

pub returns : goal.returns
returns c =
    c.in_ok-extend_from_slice-2.ensures.items
    ∙ ap (λ l. l ++ codes ")") (c.in_ok-put_neighbours.ensures ∙ ap (λ l. l ++ neighbours_text c.args.first) c.in_ok-extend_from_slice.ensures.items)
    ∙ three-parts c.args.line.now.items (codes " by 1019 (or ") (neighbours_text c.args.first) (codes ")")
