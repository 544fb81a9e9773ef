use Rattle.std.proofs.Common.{codes}
use Rattle.rtk_captures.specs.Lists.{date_line}
use Rattle.rtk_plan.specs.ClockNotes.{day_line}
use Rattle.rtk_survey.proofs.PublicLaws.{then-put}
use Rattle.rtk_plan.proofs.clock_notes.put_day.Goals as goal

pub returns : goal.returns
unfolding day_line
returns c =
    then-put c.args.lines.now.items c.extend_from_slice.new.self.items c.put_date_line.new.lines.items
    (codes " day-of-1012") (date_line c.args.told.now c.args.name.now)
    c.in_ok-extend_from_slice.ensures.items c.in_ok-put_date_line.ensures
