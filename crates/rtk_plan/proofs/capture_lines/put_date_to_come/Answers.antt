use Rattle.std.proofs.Common.{codes}
use Rattle.rtk_captures.specs.Lists.{to_come_line}
use Rattle.rtk_plan.specs.KnownLines.{date_to_come}
use Rattle.rtk_survey.proofs.PublicLaws.{then-put}
use Rattle.rtk_plan.proofs.capture_lines.put_date_to_come.Goals as goal

pub returns : goal.returns
unfolding date_to_come
returns c =
    then-put c.args.lines.now.items c.extend_from_slice.new.self.items c.put_to_come_line.new.lines.items
    (codes " other-date") (to_come_line c.args.told.now c.args.name.now)
    c.in_ok-extend_from_slice.ensures.items c.in_ok-put_to_come_line.ensures
