use Rattle.std.proofs.Common.{arith}
use Rattle.rtk_obs.proofs.LockLemmas.{least_lock-doubled}
use Rattle.rtk_obs.proofs.lock_time.least_lock_extended.Goals as goal

pub returns-in-64-to-704 : goal.returns-in-64-to-704
returns-in-64-to-704 c = least_lock-doubled c.args.indicator _ (omega arith) (omega arith) c.from-in-64-to-704.ensures
