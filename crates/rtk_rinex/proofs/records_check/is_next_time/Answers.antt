use Rattle.std.proofs.Common.{rules}
use Rattle.rtk_rinex.proofs.records_check.is_next_time.Goals as goal

pub returns-in-Some : goal.returns-in-Some
returns-in-Some c = search rules depth 5 fits 300
