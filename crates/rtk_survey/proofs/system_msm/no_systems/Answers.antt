use Rattle.rtk_survey.proofs.SystemLemmas.{no-systems-yet}
use Rattle.rtk_survey.proofs.system_msm.no_systems.Goals as goal

pub returns : goal.returns
returns c = no-systems-yet c.new.result c.new.ensures.empty
