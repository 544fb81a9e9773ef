use Rattle.rtk_commands.proofs.CompareLemmas.{due-mixed}
use Rattle.rtk_commands.proofs.with_label.wrong_mixed_line.Goals as goal

pub returns : goal.returns
returns c =
    let u = c.args.unlabelled.now in
    due-mixed c.args.table.now.text u.lines.items c.in_ok-due.due.items u.from u.times c.wrong_line.result c.in_ok-due.ensures (rw c.as_slice.ensures.value at c.wrong_line.ensures)
