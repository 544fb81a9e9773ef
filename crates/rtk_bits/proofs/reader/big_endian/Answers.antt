use Rattle.std.proofs.Common.{arith, refl}
use Rattle.rtk_bits.specs.Bits.{bits, unsigned}
use Rattle.rtk_bits.proofs.MachineWords.{push_byte}
use Rattle.rtk_bits.proofs.reader.big_endian.Goals as goal

pub loop-byte-init : goal.loop-byte-init
unfolding bits unsigned
loop-byte-init c = refl

pub loop-byte-preserved : goal.loop-byte-preserved
loop-byte-preserved c =
    rw c.loop-byte.invariant (push_byte c.args.bytes.now c.loop-byte.byte-index 0 (λ i. omega (arith, c.type_inv.bytes i)) c.loop-byte-test.true c.requires)
