use Rattle.rtk_plan.specs.KnownLines.{epochs_line, outside_line}
use Rattle.rtk_survey.proofs.PublicLaws.{then-put}
use Rattle.rtk_plan.proofs.capture_lines.put_capture_notes.Goals as goal

pub returns : goal.returns
returns c =
    then-put c.args.lines.now.items c.put_epochs_of.new.lines.items c.put_outside.new.lines.items
    (epochs_line c.args.capture.now.span c.args.name.now) (outside_line c.args.capture.now.outside c.args.name.now)
    c.in_ok-put_epochs_of.ensures c.in_ok-put_outside.ensures
