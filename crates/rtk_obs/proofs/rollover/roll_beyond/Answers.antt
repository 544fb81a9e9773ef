use Rattle.std.proofs.Common.{arith}
use Rattle.std.proofs.lemmas.Int.{ints}
use Rattle.rtk_obs.proofs.RolloverLemmas.{roll-within}
use Rattle.rtk_obs.proofs.rollover.roll_beyond.Goals as goal

pub returns-else-change-limit-2-clause-value : goal.returns-else-change-limit-2-clause-value
returns-else-change-limit-2-clause-value c = λ frequency is. roll-within frequency c.args.limit c.args.change is (omega (arith, ints))
