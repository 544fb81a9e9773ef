use Rattle.std.proofs.Common.{◌*◌, ◌+◌, ◌/◌, ◌≤◌, arith}
use Rattle.std.proofs.Math.Nat.{mul-le-mul}
use Rattle.rtk_obs.proofs.RoundingLemmas.{magnitude-unique}
use Rattle.rtk_obs.proofs.doppler.shift_magnitude.Goals as goal

pub overflow_mul-product : goal.overflow_mul-product
overflow_mul-product c =
    let product : c.args.n * c.args.frequency ≤ 2305843009213693952 =
    mul-le-mul {n₁ = c.args.n} {m₁ = c.args.frequency} {n₂ = 536870912} {m₂ = 4294967296} (omega arith) (omega arith) in
    rw c.from.ensures (omega (arith, product))

pub overflow_add-result : goal.overflow_add-result
overflow_add-result c =
    let product : c.args.n * c.args.frequency ≤ 2305843009213693952 =
    mul-le-mul {n₁ = c.args.n} {m₁ = c.args.frequency} {n₂ = 536870912} {m₂ = 4294967296} (omega arith) (omega arith) in
    rw (c.from.ensures, c.from-2.ensures) (omega (arith, product))

pub returns-clause-value : goal.returns-clause-value
returns-clause-value c =
    rw (c.from.ensures, c.from-2.ensures, c.from-3.ensures)
    (magnitude-unique (c.args.n * c.args.frequency) 2997924580 ((c.args.n * c.args.frequency + 1498962290) / 2997924580) (omega arith, omega arith))

pub returns-clause-bound : goal.returns-clause-bound
returns-clause-bound c =
    let product : c.args.n * c.args.frequency ≤ 2305843009213693952 =
    mul-le-mul {n₁ = c.args.n} {m₁ = c.args.frequency} {n₂ = 536870912} {m₂ = 4294967296} (omega arith) (omega arith) in
    rw (c.from.ensures, c.from-2.ensures, c.from-3.ensures) (omega (arith, product))
