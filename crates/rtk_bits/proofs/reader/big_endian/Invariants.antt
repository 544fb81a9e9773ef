use Rattle.std.proofs.Common.{◌≡◌, take}
use Rattle.rtk_bits.specs.Bits.{bits, unsigned}
use Rattle.rtk_bits.proofs.reader.big_endian.Given as goal

abbrev pub invariant-loop-byte : goal.invariant-loop-byte
invariant-loop-byte l = l.word ≡ unsigned (bits (take l.byte-index l.bytes))
