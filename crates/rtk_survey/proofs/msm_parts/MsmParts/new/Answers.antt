use Rattle.rtk_message.specs.declared.msm_kind.MsmKind.TheVariants.{Msm4, Msm5, Msm6, Msm7}
use Rattle.rtk_survey.proofs.msm_parts.MsmParts.new.Goals as goal

pub returns : goal.returns
returns c = record {
  msm4 = c.new.ensures Msm4;
  msm5 = c.new-2.ensures Msm5;
  msm6 = c.new-3.ensures Msm6;
  msm7 = c.new-4.ensures Msm7;
}
