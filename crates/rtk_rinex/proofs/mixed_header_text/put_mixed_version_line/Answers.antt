use Rattle.std.proofs.Common.{refl}
use Rattle.rtk_rinex.proofs.mixed_header_text.put_mixed_version_line.Goals as goal

pub returns-clause-items : goal.returns-clause-items
returns-clause-items c = rw c.put_header_line.ensures.items refl
