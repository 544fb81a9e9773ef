use Rattle.std.proofs.Common.{ap, ◌∙◌}
use Rattle.rtk_survey.specs.ClockLines.{leap_seconds_by}
use Rattle.rtk_survey.proofs.clock_lines.leap_seconds_by.Goals as goal

pub returns : goal.returns
returns c = c.table_seconds_at.ensures ∙ ap leap_seconds_by c.moment_of.ensures
