-- Remainders of numbers, whose bits are the coefficients of a polynomial.
use Rattle.std.specs.Prelude.{◌≡◌, ℕ, ◌*◌, ◌^◌, ◌<◌, Bool, List, ◌++◌}
use Rattle.rtk_bits.specs.Bits.{bits_of}
use Rattle.rtk_frame.specs.Checksum.{zeros, divide}

-- what remains of a number of 24 bits with n zero bytes after it
abbrev pub after_zeros : ℕ → ℕ → List Bool
after_zeros n c = divide (8 * n) (bits_of 24 c ++ zeros (8 * n))

-- what remains of a number of 48 bits
abbrev pub rest_of : ℕ → List Bool
rest_of q = divide 24 (bits_of 48 q)

-- p is the remainder of x^(8n)
pub record IsPower (n p : ℕ) : Type 0 where
  pub small : p < 2 ^ 24
  pub power : bits_of 24 p ≡ after_zeros n 1
