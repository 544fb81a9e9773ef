use Rattle.std.proofs.Common.{rules}
use Rattle.rtk_rinex.proofs.mixed_slots_read.known.Goals as goal

pub returns-clause-good : goal.returns-clause-good
returns-clause-good c = search rules
