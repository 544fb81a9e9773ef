use Rattle.std.proofs.Common.{◌++◌, ap, ◌∙◌, codes}
use Rattle.rtk_captures.specs.Lists.{words_and_name}
use Rattle.rtk_survey.proofs.PublicLaws.{five-parts}
use Rattle.rtk_captures.proofs.lists.put_unpacking_by.Goals as goal

pub returns : goal.returns
returns c =
    let from = words_and_name (codes " ") c.args.name.now in
    let to = words_and_name (codes " >") c.args.name.now in
    c.in_ok-extend_from_slice-3.ensures.items
    ∙ ap (λ l. l ++ codes ".rtcm") (c.in_ok-put_words_and_name-2.ensures
    ∙ ap (λ l. l ++ to) (c.in_ok-put_words_and_name.ensures
    ∙ ap (λ l. l ++ from) (c.in_ok-extend_from_slice-2.ensures.items
    ∙ ap (λ l. l ++ c.args.command.now) c.in_ok-extend_from_slice.ensures.items)))
    ∙ five-parts c.args.lines.now.items (codes "; unpack it: ") c.args.command.now from to (codes ".rtcm")
