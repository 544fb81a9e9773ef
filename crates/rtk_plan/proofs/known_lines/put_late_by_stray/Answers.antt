use Rattle.std.proofs.Common.{◌++◌, ap, ◌∙◌, codes, decimal, ne_eqb}
use Rattle.rtk_survey.proofs.PublicLaws.{three-parts}
use Rattle.rtk_plan.proofs.known_lines.put_late_by_stray.Goals as goal

pub returns : goal.returns
returns c =
    let first = codes ", " in
    let last = codes " of them on a link with the stray epoch" in
    rw (ne_eqb c.args.count 0 c.if-count-eq0.false) (
    c.in_ok-extend_from_slice.ensures.items
    ∙ ap (λ l. l ++ last) c.in_ok-put_named.ensures
    ∙ three-parts c.args.lines.now.items first (decimal c.args.count) last)
