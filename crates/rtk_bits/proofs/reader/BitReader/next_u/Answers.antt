use Rattle.std.proofs.Common.{◌+◌, ◌*◌, ◌≤◌, arith, drop, length}
use Rattle.std.proofs.lemmas.List.{take_rest}
use Rattle.rtk_bits.specs.Bits.{bits}
use Rattle.rtk_bits.proofs.ReaderLemmas.{length-left, left-rest}
use Rattle.rtk_bits.proofs.Taken.{taken_u}
use Rattle.rtk_bits.proofs.reader.BitReader.next_u.Goals as goal

pub prove-unreachable-requires : goal.prove-unreachable-requires
prove-unreachable-requires c =
    let enough = rw (← c.self.view_is) at c.requires.enough in
    absurd (omega (arith, enough, c.requires.width.0, length-left c.self.inside.rest.now c.self.inside.skip, c.if-prove.true))

pub field_at-number-requires-clause-enough : goal.field_at-number-requires-clause-enough
field_at-number-requires-clause-enough c =
    let enough = rw (← c.self.view_is) at c.requires.enough in
    omega (arith, enough, c.requires.width.0, length-left c.self.inside.rest.now c.self.inside.skip)

pub returns-clause-rest : goal.returns-clause-rest
returns-clause-rest c =
    let enough = rw (← c.self.view_is) at c.requires.enough in
    let long : c.self.inside.skip + c.args.width ≤ 8 * length c.self.inside.rest.now = omega (arith, enough, c.requires.width.0, length-left c.self.inside.rest.now c.self.inside.skip) in
    rw (← c.self.view_is, take_rest) (left-rest c.self.inside.rest.now c.self.inside.skip c.args.width (omega (arith, long)))

pub returns-clause-bound : goal.returns-clause-bound
returns-clause-bound c =
    let enough = rw (← c.self.view_is) at c.requires.enough in
    let long : c.self.inside.skip + c.args.width ≤ 8 * length c.self.inside.rest.now = omega (arith, enough, c.requires.width.0, length-left c.self.inside.rest.now c.self.inside.skip) in
    (taken_u (drop c.self.inside.skip (bits c.self.inside.rest.now)) c.args.width c.field_at-number.result
    (omega (arith, long, length-left c.self.inside.rest.now c.self.inside.skip)) c.field_at-number.ensures).0

pub returns-clause-field : goal.returns-clause-field
returns-clause-field c =
    let enough = rw (← c.self.view_is) at c.requires.enough in
    let long : c.self.inside.skip + c.args.width ≤ 8 * length c.self.inside.rest.now = omega (arith, enough, c.requires.width.0, length-left c.self.inside.rest.now c.self.inside.skip) in
    rw (← c.self.view_is, take_rest, left-rest c.self.inside.rest.now c.self.inside.skip c.args.width (omega (arith, long)))
    ((taken_u (drop c.self.inside.skip (bits c.self.inside.rest.now)) c.args.width c.field_at-number.result
    (omega (arith, long, length-left c.self.inside.rest.now c.self.inside.skip)) c.field_at-number.ensures).1)
