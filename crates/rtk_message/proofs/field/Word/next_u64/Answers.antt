use Rattle.std.proofs.Common.{◌≤◌, ◌-◌, length, ap, arith}
use Rattle.rtk_bits.proofs.PublicLaws.{length-bits_of}
use Rattle.rtk_message.proofs.WordLemmas.{word_field}
use Rattle.rtk_message.proofs.field.Word.next_u64.Goals as goal

pub overflow_sub-self : goal.overflow_sub-self
overflow_sub-self c = omega (arith, c.requires.enough, ap length c.self.view_is, length-bits_of c.self.inside.left c.self.inside.bits)

pub returns-clause-taken : goal.returns-clause-taken
returns-clause-taken c =
    let enough : c.args.width ≤ c.self.inside.left = omega (arith, c.requires.enough, ap length c.self.view_is, length-bits_of c.self.inside.left c.self.inside.bits) in
    rw (← c.self.view_is) (word_field c.self.inside.left c.args.width c.self.inside.bits enough c.requires.width.1)

pub returns-clause-left : goal.returns-clause-left
returns-clause-left c =
    let enough : c.args.width ≤ c.self.inside.left = omega (arith, c.requires.enough, ap length c.self.view_is, length-bits_of c.self.inside.left c.self.inside.bits) in
    rw (← c.self.view_is) (omega (arith, enough, length-bits_of c.self.inside.left c.self.inside.bits, length-bits_of (c.self.inside.left - c.args.width) c.self.inside.bits))
