use Rattle.std.proofs.Common.{◌++◌, ap, ◌∙◌, codes}
use Rattle.rtk_systems.specs.MessageLines.{unread_lines_from, unread_legacy_glonass, unread_glonass_to_sbas}
use Rattle.rtk_survey.proofs.PublicLaws.{four-parts}
use Rattle.rtk_systems.proofs.message_lines.put_unread_glonass_to_sbas.Goals as goal

pub returns : goal.returns
unfolding unread_glonass_to_sbas
returns c =
    let a = unread_legacy_glonass c.args.is_long c.args.taken c.args.surveys.now in
    let b = unread_lines_from (codes " not in the file: GLONASS ") c.args.taken c.args.surveys.now 1081 7 in
    let d = unread_lines_from (codes " not in the file: Galileo ") c.args.taken c.args.surveys.now 1091 7 in
    let e = unread_lines_from (codes " not in the file: SBAS ") c.args.taken c.args.surveys.now 1101 7 in
    c.in_ok-put_numbered-3.ensures
    ∙ ap (λ l. l ++ e) (c.in_ok-put_numbered-2.ensures
    ∙ ap (λ l. l ++ d) (c.in_ok-put_numbered.ensures ∙ ap (λ l. l ++ b) (c.in_ok-put_legacy_glonass.ensures)))
    ∙ four-parts c.args.lines.now.items a b d e
