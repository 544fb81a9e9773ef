use Rattle.std.proofs.Common.{◌++◌, ℕ, List, ap, ◌∙◌, codes}
use Rattle.rtk_plan.specs.SaidCommand.{said_code}
use Rattle.rtk_survey.proofs.PublicLaws.{three-parts}
use Rattle.rtk_plan.proofs.phase_lines.put_few_phases_line.Goals as goal

pub returns : goal.returns
returns c =
    let first = codes " few-phases " in
    let name : List ℕ = said_code c.args.code in
    let last = codes ": its satellites have more than twice as many in another code\n" in
    rw c.if-not-has_few.false (
    c.in_ok-extend_from_slice-2.ensures.items
    ∙ ap (λ l. l ++ last) (c.in_ok-put_code.ensures ∙ ap (λ l. l ++ name) c.in_ok-extend_from_slice.ensures.items)
    ∙ three-parts c.args.lines.now.items first name last)
