use Rattle.std.proofs.Common.{ap, ◌∙◌}
use Rattle.rtk_survey.specs.ClockLines.{leap_seconds_by}
use Rattle.rtk_systems.proofs.clock_seconds.table_on.Goals as goal

pub returns : goal.returns
returns c = c.table_seconds_at.ensures ∙ ap leap_seconds_by c.noon_near.ensures
