-- What remains of the division in the midst of a text.
use Rattle.std.specs.Prelude.{ℕ, ◌*◌, Bool, List, ◌++◌, length}
use Rattle.rtk_bits.specs.Bits.{bits, bits_of}
use Rattle.rtk_frame.specs.Checksum.{zeros, flip, divide}

-- what remains of the bytes, once their first bits are flipped by the bits of a state of 32 bits
unfoldable pub remainder : ℕ → List ℕ → List Bool
remainder state bytes = divide (8 * length bytes) (flip (bits_of 32 state) (bits bytes ++ zeros 24))
