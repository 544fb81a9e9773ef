-- What the reader computes: a field of a word of bytes, the bits after it, and the sign that two
-- shifts spread.
use Rattle.std.proofs.Common.{◌≡◌, ℕ, suc, ◌+◌, ◌-◌, ◌*◌, ◌/◌, ◌%◌, ◌^◌, ◌<◌, ◌≤◌, ℤ, to_z, of_z, w64, Bool, true, false, List, [], ◌∷◌, length, take, drop, ltb, sym, ap, subst, ◌∙◌, arith}
use lib.Signed.{shr_z, mag, mag_shr}
use mir.Val.{SFits}
use Rattle.std.proofs.lemmas.Int.{ints, to_z_pos, to_z-of_z}
use Rattle.std.proofs.lemmas.List.{length-drop, drop-append-le, take-append-le, drop-drop}
use Rattle.std.proofs.lemmas.Nat.{pow-add, pow_pos, shl-shr, shr_high, mul-le}
use Rattle.std.proofs.lemmas.Bool.{le-ltb}
use Rattle.rtk_bits.specs.Bits.{bits, unsigned, signed}
use Rattle.rtk_bits.proofs.BitsLemmas.{length-bits, length-bits-take, bits-take-drop, drop-bits}
use Rattle.rtk_bits.proofs.Numbers.{unsigned_lt, unsigned-field}

-- how many bits are left
pub length-left : (bs : List ℕ) (skip : ℕ) → length (drop skip (bits bs)) ≡ 8 * length bs - skip
length-left bs skip = omega (arith, length-drop skip (bits bs), length-bits bs)

-- the bits that are left after a field
pub left-rest : (bs : List ℕ) (skip width : ℕ) → (skip + width) / 8 ≤ length bs → drop ((skip + width) % 8) (bits (drop ((skip + width) / 8) bs)) ≡ drop width (drop skip (bits bs))
left-rest bs skip width h = drop-bits (skip + width) bs h ∙ sym (drop-drop width skip (bits bs))

-- the number of a field, from the number of the first n bytes
pub unsigned-field-bytes : (bs : List ℕ) (n s w : ℕ) → n ≤ length bs → s + w ≤ 8 * n → unsigned (take w (drop s (bits bs))) ≡ unsigned (bits (take n bs)) / 2 ^ (8 * n - (s + w)) % 2 ^ w
unsigned-field-bytes bs n s w within h =
    let front = bits (take n bs) in
    let len : length front ≡ 8 * n = length-bits-take n bs within in
    let s_fits : s ≤ length front = omega arith in
    let w_fits : w ≤ length (drop s front) = omega (arith, length-drop s front) in
    let same : take w (drop s (bits bs)) ≡ take w (drop s front) =
    ap (λ (t : List Bool). take w (drop s t)) (bits-take-drop n bs) ∙
    ap (λ (t : List Bool). take w t) (drop-append-le s front (bits (drop n bs)) s_fits) ∙ take-append-le w (drop s front) (bits (drop n bs)) w_fits in
    ap unsigned same ∙ subst (λ (k : ℕ). unsigned (take w (drop s front)) ≡ unsigned front / 2 ^ (k - (s + w)) % 2 ^ w) len (unsigned-field front s w (omega arith))

-- ---- the sign

mul-lt_right : (a b k : ℕ) → a < b → 0 < k → a * k < b * k
mul-lt_right a b k h p = omega (arith, mul-le (a + 1) k b k (omega arith) (omega arith))

turned : (a k n : ℕ) → n < a → 0 < k → a * k ≡ 2 ^ 63 → 2 ^ 64 - suc (2 ^ 63 + n * k) ≡ (a - 1 - n) * k + (k - 1)
turned a k n lt p top =
    let d = a - 1 - n in
    let e : a ≡ d + suc n = omega arith in
    let parts : d * k + n * k + k ≡ 2 ^ 63 = sym (ap (λ (x : ℕ). x * k) e ∙ omega arith) ∙ top in
    omega arith

-- a number shifted up so that its first bit is the sign bit, and back by an arithmetic shift
sign_spread : (xs : List Bool) → 1 ≤ length xs → length xs ≤ 64 → shr_z (to_z w64 (unsigned xs * 2 ^ (64 - length xs) % 2 ^ 64)) (2 ^ (64 - length xs)) ≡ signed xs
unfolding unsigned signed
sign_spread [] few most = absurd (omega arith)
sign_spread (false ∷ xs) few most =
    let n = unsigned xs in
    let s = 64 - suc (length xs) in
    let all : length xs + s ≡ 63 = omega arith in
    let top : 2 ^ length xs * 2 ^ s ≡ 2 ^ 63 = sym (pow-add 2 (length xs) s) ∙ ap (λ (k : ℕ). 2 ^ k) all in
    let below : n * 2 ^ s < 2 ^ 63 = rw (← top) (mul-lt_right n (2 ^ length xs) (2 ^ s) (unsigned_lt xs) (pow_pos s)) in
    let m : (0 * 2 ^ length xs + n) * 2 ^ s % 2 ^ 64 ≡ n * 2 ^ s = omega arith in
    rw (m, to_z_pos w64 (n * 2 ^ s) below, shl-shr n s) (omega (arith, ints))
sign_spread (true ∷ xs) few most =
    let n = unsigned xs in
    let s = 64 - suc (length xs) in
    let all : length xs + s ≡ 63 = omega arith in
    let top : 2 ^ length xs * 2 ^ s ≡ 2 ^ 63 = sym (pow-add 2 (length xs) s) ∙ ap (λ (k : ℕ). 2 ^ k) all in
    let below : n * 2 ^ s < 2 ^ 63 = rw (← top) (mul-lt_right n (2 ^ length xs) (2 ^ s) (unsigned_lt xs) (pow_pos s)) in
    let m : (1 * 2 ^ length xs + n) * 2 ^ s % 2 ^ 64 ≡ 2 ^ 63 + n * 2 ^ s = omega arith in
    let not_small : ltb (2 ^ 63 + n * 2 ^ s) (2 ^ 63) ≡ false = le-ltb _ _ (omega arith) in
    let lt : n < 2 ^ length xs = unsigned_lt xs in
    let rest : 2 ^ 64 - suc (2 ^ 63 + n * 2 ^ s) ≡ (2 ^ length xs - 1 - n) * 2 ^ s + (2 ^ s - 1) = turned (2 ^ length xs) (2 ^ s) n lt (pow_pos s) top in
    rw (m, not_small, rest, shr_high (2 ^ length xs - 1 - n) s (2 ^ s - 1) (omega (arith, pow_pos s))) (omega (arith, ints))

-- what `take_i` computes from the unsigned number
pub signed_of_unsigned : (xs : List Bool) (w n : ℕ) (r : ℤ) → length xs ≡ w → n ≡ unsigned xs → 1 ≤ w → w ≤ 64 → mag r < 2 ^ 63 → r ≡ to_z w64 (n * 2 ^ (64 - w) % 2 ^ 64)
    → to_z w64 (of_z w64 (shr_z (to_z w64 (of_z w64 r)) (2 ^ (64 - w)))) ≡ signed xs
signed_of_unsigned xs w n r len number few most small r_is =
    let fits : SFits w64 r = record { sfits = small } in
    let shifted : SFits w64 (shr_z r (2 ^ (64 - w))) = record { sfits = omega (arith, mag_shr r (2 ^ (64 - w))) } in
    rw (to_z-of_z w64 r fits, to_z-of_z w64 (shr_z r (2 ^ (64 - w))) shifted, r_is, number, ← len) (sign_spread xs (omega arith) (omega arith))
