use Rattle.std.proofs.Common.{◌++◌, ap, ◌∙◌, codes, decimal, ne_eqb}
use Rattle.rtk_plan.specs.KnownLines.{conflicts_line}
use Rattle.rtk_survey.proofs.PublicLaws.{three-parts}
use Rattle.rtk_plan.proofs.known_lines.put_conflicts.Goals as goal

pub returns : goal.returns
unfolding conflicts_line
returns c =
    let first = codes " conflict " in
    let last = codes ": later copies differ from the first, which the file has\n" in
    rw (ne_eqb c.args.conflicts 0 c.if-conflicts-eq0.false) (
    c.in_ok-extend_from_slice.ensures.items
    ∙ ap (λ l. l ++ last) c.in_ok-put_named.ensures
    ∙ three-parts c.args.lines.now.items first (decimal c.args.conflicts) last)
