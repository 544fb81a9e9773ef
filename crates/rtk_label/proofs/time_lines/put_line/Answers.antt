use Rattle.std.proofs.Common.{append_assoc}
use Rattle.rtk_rinex.specs.Header.{header_line}
use Rattle.rtk_label.proofs.time_lines.put_line.Goals as goal

pub returns-clause-items : goal.returns-clause-items
unfolding header_line
returns-clause-items c = rw (c.add.ensures.items, c.put_left-2.ensures.items, c.put_left.ensures.items) (simp append_assoc)
