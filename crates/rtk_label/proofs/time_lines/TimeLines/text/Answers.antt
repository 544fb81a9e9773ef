use Rattle.std.proofs.Common.{refl}
use Rattle.rtk_label.proofs.time_lines.TimeLines.text.Goals as goal

pub returns-clause-value : goal.returns-clause-value
returns-clause-value c =
    rw (c.put_last_line.ensures.items, c.put_interval_line.ensures.items, c.new-out.ensures, c.asked_interval.ensures, c.asked_last.ensures) refl
