use Rattle.std.proofs.Common.{◌++◌, ℕ, List, ap, ◌∙◌, codes, decimal}
use Rattle.rtk_survey.proofs.PublicLaws.{three-parts}
use Rattle.rtk_plan.proofs.leap_lines.put_found_words.Goals as goal

pub returns : goal.returns
returns c =
    let last : List ℕ = codes ": by the clocks of GLONASS\n" in
    c.in_ok-extend_from_slice.ensures.items
    ∙ ap (λ (l : List ℕ). l ++ last) (c.in_ok-put_named.ensures
    ∙ ap (λ (n : ℕ). (c.args.lines.now.items ++ codes " leap-seconds ") ++ decimal n) c.from.ensures)
    ∙ three-parts c.args.lines.now.items (codes " leap-seconds ") (decimal c.args.seconds) last
