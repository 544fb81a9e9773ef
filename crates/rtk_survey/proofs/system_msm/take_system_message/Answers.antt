use Rattle.std.proofs.Common.{sym, ◌∙◌}
use Rattle.rtk_survey.proofs.SystemLemmas.{system-same}
use Rattle.rtk_survey.proofs.system_msm.take_system_message.Goals as goal

pub returns-else-has_part_beside : goal.returns-else-has_part_beside
returns-else-has_part_beside c = λ ms all. system-same c.args.parts.now c.args.message.now ms (sym c.has_part_beside.ensures ∙ c.if-has_part_beside.false) all
