use Rattle.std.proofs.Common.{◌≤◌, length, ap, refl, arith}
use Rattle.rtk_bits.proofs.PublicLaws.{length-bits_of, unsigned-bits_of}
use Rattle.rtk_message.proofs.WordLemmas.{low_bits}
use Rattle.rtk_message.proofs.field.Word.count_ones.Goals as goal

pub overflow_shr-result : goal.overflow_shr-result
overflow_shr-result c = omega (arith, c.requires, ap length c.self.view_is, length-bits_of c.self.inside.left c.self.inside.bits)

pub returns : goal.returns
returns c =
    let few : c.self.inside.left ≤ 64 = c.self.invariant in
    rw (← c.self.view_is, unsigned-bits_of c.self.inside.left c.self.inside.bits, low_bits c.self.inside.bits c.self.inside.left few) refl
