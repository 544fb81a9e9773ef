use Rattle.std.proofs.Common.{◌≡◌, ◌≤◌, ℕ, List, Bool, length, sym, subst, ◌∙◌, arith}
use Rattle.std.proofs.Math.Nat.{mod-eq_of_lt}
use Rattle.rtk_bits.specs.Bits.{bits_of, signed, signed_bits_of, FitsSigned}
use Rattle.rtk_bits.proofs.PublicLaws.{length-bits_of, unsigned-bits_of, signed_of_unsigned, signed_fits, signed_bits_of-signed}
use Rattle.rtk_message.proofs.field.signed_of.Goals as goal

pub returns-clause-fits : goal.returns-clause-fits
returns-clause-fits c =
    let w = c.args.width in
    let xs : List Bool = bits_of w c.args.bits in
    let len = length-bits_of w c.args.bits in
    let value = signed_of_unsigned xs w c.args.bits c.cast_signed.result len (sym (unsigned-bits_of w c.args.bits ∙ mod-eq_of_lt c.requires.bits)) c.requires.width.0 (omega arith) c.cast_signed.type_inv c.cast_signed.ensures in
    let some : 1 ≤ length xs = omega (arith, len, c.requires.width.0) in
    rw value (subst (λ (k : ℕ). FitsSigned k (signed xs)) len (signed_fits xs some))

pub returns-clause-bits : goal.returns-clause-bits
returns-clause-bits c =
    let w = c.args.width in
    let xs : List Bool = bits_of w c.args.bits in
    let len = length-bits_of w c.args.bits in
    let value = signed_of_unsigned xs w c.args.bits c.cast_signed.result len (sym (unsigned-bits_of w c.args.bits ∙ mod-eq_of_lt c.requires.bits)) c.requires.width.0 (omega arith) c.cast_signed.type_inv c.cast_signed.ensures in
    let some : 1 ≤ length xs = omega (arith, len, c.requires.width.0) in
    rw value (subst (λ (k : ℕ). signed_bits_of k (signed xs) ≡ xs) len (signed_bits_of-signed xs some))
