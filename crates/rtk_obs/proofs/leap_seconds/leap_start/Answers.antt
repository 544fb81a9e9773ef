use Rattle.std.proofs.Common.{rules}
use Rattle.rtk_obs.proofs.LeapLemmas.{start}
use Rattle.rtk_obs.proofs.leap_seconds.leap_start.Goals as goal

pub returns : goal.returns
returns c = rw (← start c.args.leap_seconds) (search rules)
