-- The checksum CRC-24Q, as a division of bits (RTCM 10403.3, transport layer).
-- Source: RTCM 10403.3, transport layer
use Rattle.std.specs.Prelude.{ℕ, zero, suc, ◌*◌, Bool, false, cond, not, List, [], ◌∷◌, ◌++◌, length}
use Rattle.rtk_bits.specs.Bits.{bits, bits_of, unsigned}

-- n zero bits
abbrev pub zeros : ℕ → List Bool
zeros zero = []
zeros (suc n) = false ∷ zeros n

-- the bits xs; a bit is flipped if the bit of gs at its place is set
abbrev pub flip : List Bool → List Bool → List Bool
flip [] xs = xs
flip (g ∷ gs) [] = []
flip (g ∷ gs) (x ∷ xs) = cond g (not x) x ∷ flip gs xs

-- constant
-- the last 24 bits of the generator 1864CFB
abbrev pub generator : List Bool
generator = bits_of 24 0x864CFB

-- n steps of the division: in each one the first bit is dropped and, if it was set, the next 24
-- bits are flipped by the generator
unfoldable pub divide : ℕ → List Bool → List Bool
divide zero xs = xs
divide (suc n) [] = []
divide (suc n) (x ∷ xs) = divide n (cond x (flip generator xs) xs)

-- formula
-- CRC-24Q: what remains of the bits of the bytes with 24 zeros after them, once each bit of the
-- bytes is dropped
unfoldable pub crc : List ℕ → ℕ
crc bytes = unsigned (divide (8 * length bytes) (bits bytes ++ zeros 24))
