use Rattle.std.proofs.Common.{◌++◌, ap, ◌∙◌}
use Rattle.rtk_systems.specs.MessageLines.{unread_gps, unread_glonass_to_sbas, unread_qzss_to_navic, all_unread}
use Rattle.rtk_survey.proofs.PublicLaws.{three-parts}
use Rattle.rtk_systems.proofs.message_lines.put_unread.Goals as goal

pub returns : goal.returns
unfolding all_unread
returns c =
    let a = unread_gps c.args.taken c.args.surveys.now in
    let b = unread_glonass_to_sbas c.args.is_long c.args.taken c.args.surveys.now in
    let d = unread_qzss_to_navic c.args.taken c.args.surveys.now in
    c.in_ok-put_unread_qzss_to_navic.ensures
    ∙ ap (λ l. l ++ d) (c.in_ok-put_unread_glonass_to_sbas.ensures ∙ ap (λ l. l ++ b) (c.in_ok-put_unread_gps.ensures))
    ∙ three-parts c.args.lines.now.items a b d
