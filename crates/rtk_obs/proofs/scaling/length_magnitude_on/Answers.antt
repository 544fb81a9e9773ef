use Rattle.std.proofs.Common.{◌*◌, ◌+◌, ◌/◌, ◌≤◌, arith}
use Rattle.std.proofs.Math.Nat.{mul-le-mul}
use Rattle.rtk_obs.proofs.RoundingLemmas.{magnitude-unique}
use Rattle.rtk_obs.proofs.scaling.length_magnitude_on.Goals as goal

pub returns-clause-value : goal.returns-clause-value
returns-clause-value c =
    rw (c.from.ensures, c.from-2.ensures, c.from-3.ensures, c.from-4.ensures)
    (magnitude-unique (c.args.n * c.args.frequency) 599584916 ((c.args.n * c.args.frequency + 299792458) / 599584916) (omega arith, omega arith))

pub returns-clause-bound : goal.returns-clause-bound
returns-clause-bound c =
    let product : c.args.n * c.args.frequency ≤ 1180591620717411303424 =
    mul-le-mul {n₁ = c.args.n} {m₁ = c.args.frequency} {n₂ = 274877906944} {m₂ = 4294967296} (omega arith) (omega arith) in
    rw (c.from.ensures, c.from-2.ensures, c.from-3.ensures, c.from-4.ensures) (omega (arith, product))
