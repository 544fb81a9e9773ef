use Rattle.std.proofs.Common.{◌++◌, ap, ◌∙◌}
use Rattle.rtk_plan.specs.KnownLines.{not_taken_by}
use Rattle.rtk_systems.specs.DopplerLines.{doppler_lines_unless}
use Rattle.rtk_systems.specs.MessageLines.{obs_1004_line, msm_lines, sbas_line, all_unread}
use Rattle.rtk_survey.proofs.PublicLaws.{five-parts}
use Rattle.rtk_plan.proofs.known_lines.put_not_taken.Goals as goal

pub returns : goal.returns
unfolding not_taken_by
returns c =
    let ss = c.args.surveys.now in
    let f = obs_1004_line c.args.has_gps c.args.has_sbas ss c.args.station in
    let a = msm_lines c.args.taken ss c.args.station in
    let b = doppler_lines_unless c.args.has_doppler c.args.taken ss c.args.station in
    let d = sbas_line c.args.has_sbas ss c.args.station in
    let e = all_unread c.args.is_long c.args.taken ss in
    c.in_ok-put_unread.ensures
    ∙ ap (λ l. l ++ e) (c.in_ok-put_sbas.ensures ∙ ap (λ l. l ++ d) (c.in_ok-put_doppler.ensures ∙ ap (λ l. l ++ b) (c.in_ok-put_msms.ensures
    ∙ ap (λ l. l ++ a) c.in_ok-put_obs_1004.ensures)))
    ∙ five-parts c.args.lines.now.items f a b d e
