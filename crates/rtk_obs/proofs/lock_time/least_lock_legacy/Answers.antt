use Rattle.std.proofs.Common.{arith}
use Rattle.rtk_obs.proofs.LockLemmas.{least_lock-legacy}
use Rattle.rtk_obs.proofs.lock_time.least_lock_legacy.Goals as goal

pub returns : goal.returns
returns c = rw c.from.ensures (least_lock-legacy c.args.indicator (omega arith))
