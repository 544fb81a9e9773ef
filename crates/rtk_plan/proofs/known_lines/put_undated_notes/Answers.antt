use Rattle.std.proofs.Common.{◌++◌, Bool, ap, ◌∙◌}
use Rattle.rtk_plan.specs.ClockNotes.{all_clock_notes}
use Rattle.rtk_plan.specs.KnownLines.{undated_lines, leaves_long}
use Rattle.rtk_survey.proofs.PublicLaws.{then-put}
use Rattle.rtk_plan.proofs.known_lines.put_undated_notes.Goals as goal

pub returns : goal.returns
returns c =
    let plan = c.args.plan.now in
    let names = c.args.captures.now.names.now in
    let ss = c.args.captures.now.surveys.now in
    then-put c.args.lines.now.items c.put_undated.new.lines.items c.put_all_clock_notes.new.lines.items
    (undated_lines plan.span.source names plan.captures.items) (all_clock_notes names plan.span.source (leaves_long ss plan) plan.setup ss)
    c.in_ok-put_undated.ensures (c.in_ok-put_all_clock_notes.ensures
    ∙ ap (λ (b : Bool). c.put_undated.new.lines.items ++ all_clock_notes names plan.span.source b plan.setup ss) c.leaves_long-leaves_1012.ensures)
