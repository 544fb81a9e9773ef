use Rattle.std.proofs.Common.{◌++◌, ap, ◌∙◌, codes}
use Rattle.rtk_systems.specs.MessageLines.{unread_lines_from, unread_qzss_to_navic}
use Rattle.rtk_survey.proofs.PublicLaws.{three-parts}
use Rattle.rtk_systems.proofs.message_lines.put_unread_qzss_to_navic.Goals as goal

pub returns : goal.returns
unfolding unread_qzss_to_navic
returns c =
    let a = unread_lines_from (codes " not in the file: QZSS ") c.args.taken c.args.surveys.now 1111 7 in
    let b = unread_lines_from (codes " not in the file: BeiDou ") c.args.taken c.args.surveys.now 1121 7 in
    let d = unread_lines_from (codes " not in the file: NavIC ") c.args.taken c.args.surveys.now 1131 7 in
    c.in_ok-put_numbered-3.ensures
    ∙ ap (λ l. l ++ d) (c.in_ok-put_numbered-2.ensures ∙ ap (λ l. l ++ b) (c.in_ok-put_numbered.ensures))
    ∙ three-parts c.args.lines.now.items a b d
