use Rattle.std.proofs.Common.{arith}
use Rattle.rtk_obs.proofs.LockLemmas.{least_lock-msm}
use Rattle.rtk_obs.proofs.lock_time.least_lock_msm.Goals as goal

pub returns : goal.returns
returns c = rw c.from.ensures (least_lock-msm c.args.indicator (omega arith))
