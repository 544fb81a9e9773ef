use Rattle.std.proofs.Common.{arith, refl, take}
use Rattle.std.proofs.lemmas.List.{length-take}
use Rattle.rtk_bits.proofs.ReaderLemmas.{signed_of_unsigned}
use Rattle.rtk_bits.proofs.Taken.{taken_i}
use Rattle.rtk_bits.proofs.reader.BitReader.take_i.Goals as goal

pub returns-clause-number : goal.returns-clause-number
returns-clause-number c =
    signed_of_unsigned (take c.args.width c.args.self.now) c.args.width c.in_ok-number.number c.cast_signed.result
    (omega (arith, length-take c.args.width c.args.self.now, c.in_ok-number.ensures.enough.0 refl))
    c.in_ok-number.ensures.number c.requires.0 c.requires.1 c.cast_signed.type_inv c.cast_signed.ensures

pub returns-clause-bound : goal.returns-clause-bound
returns-clause-bound c =
    (taken_i c.args.self.now c.args.width _ c.requires.0 (c.in_ok-number.ensures.enough.0 refl) (returns-clause-number c)).0

pub returns-clause-field : goal.returns-clause-field
returns-clause-field c =
    rw c.in_ok-number.ensures.rest
    ((taken_i c.args.self.now c.args.width _ c.requires.0 (c.in_ok-number.ensures.enough.0 refl) (returns-clause-number c)).1)
