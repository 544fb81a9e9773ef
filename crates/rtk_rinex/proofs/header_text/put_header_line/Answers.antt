use Rattle.std.proofs.Common.{append_assoc}
use Rattle.rtk_rinex.specs.Header.{header_line}
use Rattle.rtk_rinex.proofs.header_text.put_header_line.Goals as goal

pub returns-clause-items : goal.returns-clause-items
unfolding header_line
returns-clause-items g c = rw (c.append.ensures.items, c.put_left-2.ensures.items, c.put_left.ensures.items) (simp append_assoc)
