use Rattle.std.proofs.Common.{refl}
use Rattle.rtk_bits.specs.Bits.{bits, bits_of}
use Rattle.rtk_bits.proofs.writer.BitWriter.new.Goals as goal

pub returns : goal.returns
unfolding bits bits_of
returns c = rw c.new.ensures.items refl
