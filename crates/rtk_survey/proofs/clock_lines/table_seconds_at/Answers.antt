use Rattle.rtk_survey.proofs.LeapLemmas.{last-row}
use Rattle.rtk_survey.proofs.clock_lines.table_seconds_at.Goals as goal

pub returns : goal.returns
returns c = last-row c.args.moment c.leap_seconds_at.result c.leap_seconds_at.ensures
