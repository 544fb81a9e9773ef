use Rattle.std.proofs.Common.{refl}
use Rattle.rtk_rinex.proofs.header_text.put_end_lines.Goals as goal

pub returns-clause-items : goal.returns-clause-items
returns-clause-items c = rw (c.put_header_line-2.ensures.items, c.put_header_line.ensures.items) refl
