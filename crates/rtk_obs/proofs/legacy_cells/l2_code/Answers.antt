use Rattle.std.proofs.Common.{arith}
use Rattle.rtk_obs.proofs.LegacyLemmas.{l2-code}
use Rattle.rtk_obs.proofs.legacy_cells.l2_code.Goals as goal

pub returns : goal.returns
returns c = rw c.from.ensures (l2-code c.args.indicator _ (omega (arith, c.requires)))
