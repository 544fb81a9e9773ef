use Rattle.std.proofs.Common.{ℕ, List, ◌++◌, ap, ◌∙◌}
use Rattle.rtk_message.specs.declared.msm_kind.MsmKind.{MsmKind}
use Rattle.rtk_message.specs.declared.msm_kind.MsmKind.TheVariants.{Msm4, Msm5, Msm6, Msm7}
use Rattle.rtk_systems.specs.MessageLines.{msm_line, msm_lines}
use Rattle.rtk_survey.proofs.PublicLaws.{four-parts}
use Rattle.rtk_systems.proofs.message_lines.put_msms.Goals as goal

pub returns : goal.returns
unfolding msm_lines
returns c =
    let line : MsmKind → List ℕ = λ kind. msm_line c.args.taken c.args.surveys.now c.args.station kind in
    c.in_ok-put_msm-4.ensures
    ∙ ap (λ l. l ++ line Msm7) (c.in_ok-put_msm-3.ensures
    ∙ ap (λ l. l ++ line Msm6) (c.in_ok-put_msm-2.ensures ∙ ap (λ l. l ++ line Msm5) (c.in_ok-put_msm.ensures)))
    ∙ four-parts c.args.lines.now.items (line Msm4) (line Msm5) (line Msm6) (line Msm7)
