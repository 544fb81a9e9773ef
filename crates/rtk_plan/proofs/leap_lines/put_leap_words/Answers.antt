use Rattle.std.proofs.Common.{◌++◌, List, ℕ, ap, ◌∙◌, codes, decimal}
use Rattle.rtk_plan.specs.LeapLines.{greatest_text, leap_words_of}
use Rattle.rtk_captures.specs.Lists.{name_line}
use Rattle.rtk_survey.proofs.PublicLaws.{four-parts}
use Rattle.rtk_plan.proofs.leap_lines.put_leap_words.Goals as goal

pub returns : goal.returns
unfolding leap_words_of
returns c =
    let least : List ℕ = decimal c.args.range.now.least in
    let greatest : List ℕ = greatest_text c.args.range.now in
    let name : List ℕ = name_line (codes " by 1013 in ") c.args.name.now in
    c.in_ok-put_name_line.ensures
    ∙ ap (λ (l : List ℕ). l ++ name) (c.in_ok-put_greatest.ensures ∙ ap (λ (l : List ℕ). l ++ greatest) (c.in_ok-put_named.ensures
    ∙ ap (λ (n : ℕ). (c.args.lines.now.items ++ codes " other-leap-seconds ") ++ decimal n) c.from.ensures))
    ∙ four-parts c.args.lines.now.items (codes " other-leap-seconds ") least greatest name
