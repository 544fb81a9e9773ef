-- What the writer computes: a field after the bits put so far, the last byte with its padding, and
-- the bits of a signed value.
use Rattle.std.proofs.Common.{◌≡◌, ℕ, suc, ◌+◌, ◌-◌, ◌*◌, ◌/◌, ◌%◌, ◌^◌, ◌<◌, ◌≤◌, ℤ, pos, negsuc, of_z, w64, Bool, false, List, [], ◌∷◌, ◌++◌, length, take, drop, refl, sym, ap, ◌∙◌, append_assoc, arith, length-append, bit_or, bit_and, replicate, pow_mono}
use Rattle.std.specs.Int.{to_be_bytes, bytes_high_first}
use Rattle.std.proofs.lemmas.Int.{ints}
use Rattle.std.proofs.lemmas.List.{append-nil, take_rest}
use Rattle.std.proofs.lemmas.Nat.{pow-add, shr_high, shr_below, shl_whole, or_shifted, one_shl, and_mask, mul-le, pow_pos, mod_low}
use Rattle.std.proofs.Math.Nat.{lt_of_lt_of_le}
use Rattle.rtk_bits.specs.Bits.{bits_of, bits, signed_bits_of, FitsSigned, padding}
use Rattle.rtk_bits.proofs.BitsLemmas.{length-bits_of, length-bits, bits-append, bits-one, bits_of-zero_width, bits_of-zero, bits_of-above, bits_of-mod, bits_of-split}
use Rattle.rtk_bits.proofs.Numbers.{pow_more}
use Rattle.rtk_bits.proofs.MachineWords.{and_low_mask, bits-bytes_high_first, low_bytes}

-- ---- a field after the tail

module _ (tail_width tail width value : ℕ) (few : tail_width < 8) (fits_tail : tail < 2 ^ tail_width) (most : width ≤ 64) (fits : value < 2 ^ width) where
  all_is : bit_or (tail * 2 ^ width % 2 ^ 128) value ≡ tail * 2 ^ width + value
  all_is = rw (shl_whole tail tail_width width 128 fits_tail (omega arith)) (or_shifted tail width value fits)

  all_lt : tail * 2 ^ width + value < 2 ^ (tail_width + width)
  all_lt = rw (pow-add 2 tail_width width) (omega (arith, mul-le (tail + 1) (2 ^ width) (2 ^ tail_width) (2 ^ width) (omega arith) (omega arith)))

  -- the whole bytes of both fit a word
  pub whole_lt : bit_or (tail * 2 ^ width % 2 ^ 128) value / 2 ^ ((tail_width + width) % 8) < 2 ^ 64
  whole_lt =
      let e : tail_width + width ≡ 8 * ((tail_width + width) / 8) + (tail_width + width) % 8 = omega arith in
      let lt : tail * 2 ^ width + value < 2 ^ (8 * ((tail_width + width) / 8) + (tail_width + width) % 8) = rw (← e) all_lt in
      let k : 8 * ((tail_width + width) / 8) ≤ 64 = omega arith in
      rw all_is (lt_of_lt_of_le (shr_below (tail * 2 ^ width + value) (8 * ((tail_width + width) / 8)) ((tail_width + width) % 8) lt) (pow_mono k))

  tail_is : bit_and (bit_or (tail * 2 ^ width % 2 ^ 128) value) (1 * 2 ^ ((tail_width + width) % 8) % 2 ^ 128 - 1) ≡ (tail * 2 ^ width + value) % 2 ^ ((tail_width + width) % 8)
  tail_is = rw (all_is, one_shl ((tail_width + width) % 8) 128 (omega arith)) (and_mask (tail * 2 ^ width + value) ((tail_width + width) % 8))

  -- the whole bytes come after the bytes put so far, and the bits left over are the new tail
  pub put_bits : (bytes : List ℕ) → bits (bytes ++ drop (8 - (tail_width + width) / 8) (to_be_bytes w64 (bit_or (tail * 2 ^ width % 2 ^ 128) value / 2 ^ ((tail_width + width) % 8)))) ++ bits_of ((tail_width + width) % 8) (bit_and (bit_or (tail * 2 ^ width % 2 ^ 128) value) (1 * 2 ^ ((tail_width + width) % 8) % 2 ^ 128 - 1))
      ≡ (bits bytes ++ bits_of tail_width tail) ++ bits_of width value
  put_bits bytes =
      let all = tail * 2 ^ width + value in
      let k = (tail_width + width) / 8 in
      let r = (tail_width + width) % 8 in
      let e : 8 * k + r ≡ tail_width + width = omega arith in
      let left : bits (bytes ++ drop (8 - k) (to_be_bytes w64 (all / 2 ^ r))) ++ bits_of r (all % 2 ^ r) ≡ bits bytes ++ bits_of (tail_width + width) all =
      rw (low_bytes k (all / 2 ^ r) (omega arith), bits-append bytes (bytes_high_first k (all / 2 ^ r)), bits-bytes_high_first k (all / 2 ^ r), bits_of-mod r all)
      (append_assoc (bits bytes) (bits_of (8 * k) (all / 2 ^ r)) (bits_of r all) ∙ ap (λ (t : List Bool). bits bytes ++ t) (sym (bits_of-split (8 * k) r all) ∙ ap (λ (m : ℕ). bits_of m all) e)) in
      let right : bits_of (tail_width + width) all ≡ bits_of tail_width tail ++ bits_of width value =
      bits_of-split tail_width width all ∙ rw (shr_high tail width value fits, bits_of-above width width tail value (omega arith)) refl in
      rw (tail_is, all_is) (left ∙ ap (λ (t : List Bool). bits bytes ++ t) right ∙ sym (append_assoc (bits bytes) (bits_of tail_width tail) (bits_of width value)))

-- the last bytes of a word's eight, as `&bytes[i..]` has them
pub last_bytes : (i n : ℕ) (bytes : List ℕ) → bytes ≡ to_be_bytes w64 n → take (8 - i) (drop i bytes) ≡ drop i (to_be_bytes w64 n)
last_bytes i n bytes e = rw e (take_rest (to_be_bytes w64 n) i)

-- ---- the last byte

pub padded_tail : (bytes : List ℕ) (tail_width tail : ℕ) → 0 < tail_width → tail_width < 8 → tail < 2 ^ tail_width
    → bits (bytes ++ (tail * 2 ^ (8 - tail_width) % 256) ∷ []) ≡ (bits bytes ++ bits_of tail_width tail) ++ padding (length (bits bytes ++ bits_of tail_width tail))
padded_tail bytes tail_width tail some few fits =
    let len : (8 - length (bits bytes ++ bits_of tail_width tail) % 8) % 8 ≡ 8 - tail_width =
    rw (length-append (bits bytes) (bits_of tail_width tail), length-bits bytes, length-bits_of tail_width tail) (omega arith) in
    let small : tail * 2 ^ (8 - tail_width) % 256 ≡ tail * 2 ^ (8 - tail_width) + 0 = rw (shl_whole tail tail_width (8 - tail_width) 8 fits (omega arith)) (omega arith) in
    let e : tail_width + (8 - tail_width) ≡ 8 = omega arith in
    let last : bits_of 8 (tail * 2 ^ (8 - tail_width) + 0) ≡ bits_of tail_width tail ++ replicate (8 - tail_width) false =
    ap (λ (m : ℕ). bits_of m (tail * 2 ^ (8 - tail_width) + 0)) (sym e) ∙ bits_of-split tail_width (8 - tail_width) (tail * 2 ^ (8 - tail_width) + 0) ∙
    rw (shr_high tail (8 - tail_width) 0 (pow_pos (8 - tail_width)), bits_of-above (8 - tail_width) (8 - tail_width) tail 0 (omega arith), bits_of-zero (8 - tail_width)) refl in
    rw (len, small, bits-append bytes ((tail * 2 ^ (8 - tail_width) + 0) ∷ []), bits-one (tail * 2 ^ (8 - tail_width) + 0), last)
    (sym (append_assoc (bits bytes) (bits_of tail_width tail) (replicate (8 - tail_width) false)))

pub no_tail : (bytes : List ℕ) (tail_width tail : ℕ) → tail_width ≤ 0 → bits bytes ≡ (bits bytes ++ bits_of tail_width tail) ++ padding (length (bits bytes ++ bits_of tail_width tail))
no_tail bytes tail_width tail none =
    let e : tail_width ≡ 0 = omega arith in
    let len : (8 - length (bits bytes ++ []) % 8) % 8 ≡ 0 = rw (append-nil (bits bytes), length-bits bytes) (omega arith) in
    rw (e, bits_of-zero_width tail, len) (sym (append-nil (bits bytes ++ []) ∙ append-nil (bits bytes)))

-- ---- a signed value, masked

pub masked_lt : (w : ℕ) (z : ℤ) → w ≤ 64 → bit_and (of_z w64 z) ((2 ^ 64 - 1) / 2 ^ (64 - w)) < 2 ^ w
masked_lt w z most = rw (and_low_mask (of_z w64 z) w most) (omega (arith, pow_pos w))

borrowed : (a k n : ℕ) → suc n ≤ a → 0 < k → a * k ≡ 2 ^ 64 → 2 ^ 64 - suc n ≡ (k - 1) * a + (a - suc n)
borrowed a k n lt p all =
    let d = k - 1 in
    let e : k ≡ d + 1 = omega arith in
    let parts : d * a + a ≡ 2 ^ 64 = sym (ap (λ (x : ℕ). a * x) e ∙ omega arith) ∙ all in
    omega arith

pub bits_of-masked : (w : ℕ) (z : ℤ) → 1 ≤ w → w ≤ 64 → FitsSigned w z → bits_of w (bit_and (of_z w64 z) ((2 ^ 64 - 1) / 2 ^ (64 - w))) ≡ signed_bits_of w z
bits_of-masked w (pos n) few most fits = rw (and_low_mask n w most) (bits_of-mod w n)
bits_of-masked w (negsuc n) few most fits =
    let all : w + (64 - w) ≡ 64 = omega arith in
    let p : 2 ^ w * 2 ^ (64 - w) ≡ 2 ^ 64 = sym (pow-add 2 w (64 - w)) ∙ ap (λ (k : ℕ). 2 ^ k) all in
    let one : suc (w - 1) ≡ w = omega arith in
    let half : 2 ^ w ≡ 2 * 2 ^ (w - 1) = ap (λ (k : ℕ). 2 ^ k) (sym one) ∙ pow_more (w - 1) in
    let lt : suc n ≤ 2 ^ w = omega (arith, ints, fits.0, half) in
    let m : 2 ^ 64 - suc n ≡ (2 ^ (64 - w) - 1) * 2 ^ w + (2 ^ w - suc n) = borrowed (2 ^ w) (2 ^ (64 - w)) n lt (pow_pos (64 - w)) p in
    rw (and_low_mask (2 ^ 64 - suc n) w most, m, mod_low (2 ^ (64 - w) - 1) w (2 ^ w - suc n) (omega arith)) refl
