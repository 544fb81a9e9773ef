use Rattle.std.proofs.Common.{refl}
use Rattle.rtk_survey.proofs.SystemPhaseLemmas.{no-phases-yet}
use Rattle.rtk_survey.proofs.system_phases.SystemPhases.new.Goals as goal

pub returns : goal.returns
returns c = no-phases-yet _ c.args.station refl c.new.ensures.empty
