use Rattle.std.proofs.Common.{sym, ap, ◌∙◌}
use Rattle.rtk_survey.specs.Tracing.{is_beside_gps}
use Rattle.rtk_survey.proofs.VariantLemmas.{beside-four, beside-msm}
use Rattle.rtk_survey.proofs.beside_gps.is_beside_gps.Goals as goal

pub returns-in-Message : goal.returns-in-Message
returns-in-Message c = sym (ap is_beside_gps c.in-Message.is ∙ beside-four c.in-Message.field-0)

pub returns-in-Msm : goal.returns-in-Msm
returns-in-Msm c = c.is_other_system.ensures ∙ sym (ap is_beside_gps c.in-Msm.is ∙ beside-msm c.in-Msm.message)
