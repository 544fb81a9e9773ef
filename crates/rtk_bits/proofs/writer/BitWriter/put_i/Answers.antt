use Rattle.std.proofs.Common.{◌≡◌, ℤ, to_z, of_z, w64, ap, ◌∙◌}
use Rattle.std.proofs.lemmas.Int.{to_z-of_z}
use mir.Val.{SFits}
use Rattle.rtk_bits.proofs.WriterLemmas.{masked_lt, bits_of-masked}
use Rattle.rtk_bits.proofs.writer.BitWriter.put_i.Goals as goal

bits_are : (value : ℤ) (r : _) → SFits w64 value → r ≡ of_z w64 (to_z w64 (of_z w64 value)) → r ≡ of_z w64 value
bits_are value r fits e = e ∙ ap (of_z w64) (to_z-of_z w64 value fits)

pub put_u-requires-clause-value : goal.put_u-requires-clause-value
put_u-requires-clause-value c =
    rw (bits_are c.args.value c.cast_unsigned.result c.ranges.value c.cast_unsigned.ensures) (masked_lt c.args.width c.args.value c.requires.width.1)

pub returns-clause-put : goal.returns-clause-put
returns-clause-put c =
    rw (
      ← bits_of-masked c.args.width c.args.value c.requires.width.0 c.requires.width.1 c.requires.value,
      ← bits_are c.args.value c.cast_unsigned.result c.ranges.value c.cast_unsigned.ensures,
    )
    c.put_u.ensures.put
