use Rattle.std.proofs.Common.{rules}
use Rattle.rtk_rinex.proofs.record_text.is_written_value.Goals as goal

pub returns-then-value-ge-LEAST_F14_3 : goal.returns-then-value-ge-LEAST_F14_3
returns-then-value-ge-LEAST_F14_3 c = search rules depth 5 fits 300
