use Rattle.std.proofs.Common.{arith}
use Rattle.rtk_obs.proofs.SignalLemmas.{signal-code}
use Rattle.rtk_obs.proofs.msm_rows.signal_code.Goals as goal

pub returns : goal.returns
returns c = rw c.from.ensures (signal-code c.args.signal _ (omega (arith, c.requires)))
