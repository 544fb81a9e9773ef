use Rattle.std.proofs.Common.{◌*◌, ◌+◌, ◌/◌, arith}
use Rattle.rtk_obs.proofs.RoundingLemmas.{magnitude-unique}
use Rattle.rtk_obs.proofs.scaling.length_magnitude.Goals as goal

pub returns-in-L1-clause-value : goal.returns-in-L1-clause-value
returns-in-L1-clause-value c =
    rw c.in-L1.is (magnitude-unique (c.args.n * 1_575_420_000) 599_584_916 (2 * c.args.n + (94_062_542 * c.args.n + 74_948_114) / 149_896_229) (omega arith, omega arith))

pub returns-in-L2-clause-value : goal.returns-in-L2-clause-value
returns-in-L2-clause-value c =
    rw c.in-L2.is (magnitude-unique (c.args.n * 1_227_600_000) 599_584_916 (2 * c.args.n + (7_107_542 * c.args.n + 74_948_114) / 149_896_229) (omega arith, omega arith))
