-- The bits of bytes, the most significant first, and the numbers that they write.
-- Source: RTCM 10403.3, data types
use Rattle.std.specs.Prelude.{ℕ, ℤ, pos, negsuc, neg_ℤ, ◌≤ℤ◌, ◌<ℤ◌, ◌-◌, ◌%◌, replicate, zero, suc, ◌*◌, ◌+◌, ◌^◌, ◌-ℤ◌, Bool, true, false, List, [], ◌∷◌, ◌++◌, length, ◌==◌}
use Rattle.std.specs.Int.{bit_at}

-- a bit as a number, 0 or 1
abbrev pub bit : Bool → ℕ
bit false = 0
bit true = 1

-- formula
-- the w low bits of n, the most significant first (RTCM 10403.3, data types bit and uint)
unfoldable pub bits_of : ℕ → ℕ → List Bool
bits_of zero n = []
bits_of (suc w) n = (bit_at n w == 1) ∷ bits_of w n

-- formula
-- the bits of bytes, byte by byte, the most significant bit of each first
unfoldable pub bits : List ℕ → List Bool
bits [] = []
bits (b ∷ bs) = bits_of 8 b ++ bits bs

-- formula
-- the unsigned number of a list of bits: its first bit counts the most (data type uint)
unfoldable pub unsigned : List Bool → ℕ
unsigned [] = 0
unsigned (b ∷ bs) = bit b * 2 ^ length bs + unsigned bs

-- the two's complement number of a list of bits: as the unsigned number, but the first bit counts
-- negatively (data type int)
unfoldable pub signed : List Bool → ℤ
signed [] = pos 0
signed (b ∷ bs) = pos (unsigned bs) -ℤ pos (bit b * 2 ^ length bs)

-- formula
-- the w bits of a two's complement number z: the bits of z, or of z + 2 ^ w if z is negative
abbrev pub signed_bits_of : ℕ → ℤ → List Bool
signed_bits_of w (pos n) = bits_of w n
signed_bits_of w (negsuc n) = bits_of w (2 ^ w - suc n)

-- z is at least -2 ^ (w - 1) and less than 2 ^ (w - 1), the range of w bits of two's complement
abbrev pub FitsSigned : ℕ → ℤ → Type 0
FitsSigned w z = (neg_ℤ (pos (2 ^ (w - 1))) ≤ℤ z) × (z <ℤ pos (2 ^ (w - 1)))

-- formula
-- the zero bits that fill n bits up to a whole byte: no bits if n is a multiple of 8
abbrev pub padding : ℕ → List Bool
padding n = replicate ((8 - n % 8) % 8) false
