-- Laws on lists of bits and their two's complement numbers: each is made from the other.
use Rattle.std.proofs.Common.{◌≡◌, ℕ, suc, ◌+◌, ◌-◌, ◌*◌, ◌^◌, ◌<◌, ◌≤◌, pos, negsuc, ◌-ℤ◌, Bool, true, false, List, [], ◌∷◌, length, refl, arith}
use Rattle.std.proofs.lemmas.Int.{ints}
use Rattle.rtk_bits.specs.Bits.{unsigned, signed, signed_bits_of, FitsSigned}
use Rattle.rtk_bits.proofs.Numbers.{unsigned_lt, bits_of-unsigned, pow_more}

negative : (n k : ℕ) → n < k → pos n -ℤ pos (1 * k) ≡ negsuc (k - suc n)
negative n k h = omega (arith, ints)

unsigned-false : (xs : List Bool) → unsigned (false ∷ xs) ≡ unsigned xs
unfolding unsigned
unsigned-false xs = omega arith

unsigned-true : (xs : List Bool) → unsigned (true ∷ xs) ≡ 2 ^ length xs + unsigned xs
unfolding unsigned
unsigned-true xs = omega arith

fits_pos : (n k w : ℕ) → w ≡ suc k → n < 2 ^ k → FitsSigned w (pos n)
fits_pos n k w e h =
    let p : w - 1 ≡ k = omega arith in
    rw p (omega (arith, ints), omega (arith, ints))

fits_negative : (n k w : ℕ) → w ≡ suc k → n < 2 ^ k → FitsSigned w (negsuc n)
fits_negative n k w e h =
    let p : w - 1 ≡ k = omega arith in
    rw p (omega (arith, ints), omega (arith, ints))

pub signed_fits : (xs : List Bool) → 1 ≤ length xs → FitsSigned (length xs) (signed xs)
unfolding signed
signed_fits [] few = absurd (omega arith)
signed_fits (false ∷ xs) few =
    let plain : pos (unsigned xs) -ℤ pos (0 * 2 ^ length xs) ≡ pos (unsigned xs) = omega (arith, ints) in
    rw plain (fits_pos (unsigned xs) (length xs) (suc (length xs)) refl (unsigned_lt xs))
signed_fits (true ∷ xs) few =
    let lt : unsigned xs < 2 ^ length xs = unsigned_lt xs in
    rw (negative (unsigned xs) (2 ^ length xs) lt) (fits_negative (2 ^ length xs - suc (unsigned xs)) (length xs) (suc (length xs)) refl (omega arith))

pub signed_bits_of-signed : (xs : List Bool) → 1 ≤ length xs → signed_bits_of (length xs) (signed xs) ≡ xs
unfolding signed
signed_bits_of-signed [] few = absurd (omega arith)
signed_bits_of-signed (false ∷ xs) few =
    let plain : pos (unsigned xs) -ℤ pos (0 * 2 ^ length xs) ≡ pos (unsigned xs) = omega (arith, ints) in
    rw plain (rw (← unsigned-false xs) (bits_of-unsigned (false ∷ xs)))
signed_bits_of-signed (true ∷ xs) few =
    let lt : unsigned xs < 2 ^ length xs = unsigned_lt xs in
    let back : 2 ^ suc (length xs) - suc (2 ^ length xs - suc (unsigned xs)) ≡ unsigned (true ∷ xs) = omega (arith, unsigned-true xs, pow_more (length xs)) in
    rw (negative (unsigned xs) (2 ^ length xs) lt) (rw back (bits_of-unsigned (true ∷ xs)))
