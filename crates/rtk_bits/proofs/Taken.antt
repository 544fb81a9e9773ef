-- Laws on the field at the front of a list of bits: its number fits, and gives the same bits when
-- it is written.
use Rattle.std.proofs.Common.{◌≡◌, ℕ, ◌^◌, ◌<◌, ◌≤◌, ℤ, Bool, List, ◌++◌, length, take, drop, sym, subst, arith}
use Rattle.std.proofs.lemmas.List.{take-append-drop, length-take}
use Rattle.rtk_bits.specs.Bits.{unsigned, signed, bits_of, signed_bits_of, FitsSigned}
use Rattle.rtk_bits.proofs.Numbers.{unsigned_lt, bits_of-unsigned}
use Rattle.rtk_bits.proofs.Signed.{signed_fits, signed_bits_of-signed}

pub taken_u : (xs : List Bool) (w n : ℕ) → w ≤ length xs → n ≡ unsigned (take w xs) → (n < 2 ^ w) × (xs ≡ bits_of w n ++ drop w xs)
taken_u xs w n h e =
    let len : length (take w xs) ≡ w = omega (arith, length-take w xs) in
    let same : bits_of w (unsigned (take w xs)) ≡ take w xs = subst (λ (k : ℕ). bits_of k (unsigned (take w xs)) ≡ take w xs) len (bits_of-unsigned (take w xs)) in
    (rw e (subst (λ (k : ℕ). unsigned (take w xs) < 2 ^ k) len (unsigned_lt (take w xs))), rw (e, same) (sym (take-append-drop w xs)))

pub taken_i : (xs : List Bool) (w : ℕ) (z : ℤ) → 1 ≤ w → w ≤ length xs → z ≡ signed (take w xs) → FitsSigned w z × (xs ≡ signed_bits_of w z ++ drop w xs)
taken_i xs w z few h e =
    let len : length (take w xs) ≡ w = omega (arith, length-take w xs) in
    let some : 1 ≤ length (take w xs) = omega arith in (
      rw e (subst (λ (k : ℕ). FitsSigned k (signed (take w xs))) len (signed_fits (take w xs) some)),
      rw (e, subst (λ (k : ℕ). signed_bits_of k (signed (take w xs)) ≡ take w xs) len (signed_bits_of-signed (take w xs) some)) (sym (take-append-drop w xs)),
    )
