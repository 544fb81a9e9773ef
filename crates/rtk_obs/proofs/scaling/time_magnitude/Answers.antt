use Rattle.std.proofs.Common.{◌*◌, ◌+◌, ◌/◌, ◌≤◌, arith}
use Rattle.std.proofs.Math.Nat.{mul-le-mul}
use Rattle.rtk_obs.proofs.RoundingLemmas.{magnitude-unique}
use Rattle.rtk_obs.proofs.scaling.time_magnitude.Goals as goal

pub returns-clause-value : goal.returns-clause-value
returns-clause-value c =
    rw (c.from.ensures, c.from-2.ensures, c.from-3.ensures, c.from-4.ensures)
    (magnitude-unique (c.args.n * c.args.factor) 536870912 ((c.args.n * c.args.factor + 268435456) / 536870912) (omega arith, omega arith))

pub returns-clause-bound : goal.returns-clause-bound
returns-clause-bound c =
    let product : c.args.n * c.args.factor ≤ 9444732965739290427392 =
    mul-le-mul {n₁ = c.args.n} {m₁ = c.args.factor} {n₂ = 2199023255552} {m₂ = 4294967296} (omega arith) (omega arith) in
    rw (c.from.ensures, c.from-2.ensures, c.from-3.ensures, c.from-4.ensures) (omega (arith, product))
