use Rattle.std.proofs.Common.{refl}
use Rattle.rtk_rinex.proofs.header_text.header.Goals as goal

pub returns : goal.returns
returns c = rw (c.in_ok-extend_from_slice.ensures.items, c.in_ok-out.ensures.items, c.as_slice.ensures.value, c.header_lines-lines.ensures) refl
