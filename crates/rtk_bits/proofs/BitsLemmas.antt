-- Laws on the bits of bytes and of numbers: lengths, joined bytes, a number split in two, a byte as
-- eight bits.
use Rattle.std.proofs.Common.{◌≡◌, ℕ, zero, suc, ◌+◌, ◌*◌, ◌/◌, ◌%◌, ◌^◌, ◌≤◌, ◌<◌, Bool, false, List, [], ◌∷◌, ◌++◌, length, take, drop, replicate, refl, sym, ap, ◌∙◌, append_assoc, arith, length-append}
use Rattle.std.specs.Int.{bit_at}
use Rattle.std.proofs.lemmas.List.{append-nil, take-append-drop, length-take, drop_at, drop-drop}
use Rattle.std.proofs.lemmas.Nat.{shr-shr, shr_split}
use Rattle.std.proofs.lemmas.Nat.Bits.{bit_at_cat_low, bit_at-zero}
use Rattle.std.proofs.Math.Nat.{suc-add}
use Rattle.rtk_bits.specs.Bits.{bits_of, bits}

-- ---- lengths

pub length-bits_of : (w n : ℕ) → length (bits_of w n) ≡ w
unfolding bits_of
length-bits_of zero n = refl
length-bits_of (suc w) n = ap suc (length-bits_of w n)

pub length-bits : (bs : List ℕ) → length (bits bs) ≡ 8 * length bs
unfolding bits
length-bits [] = refl
length-bits (b ∷ bs) = omega (arith, length-append (bits_of 8 b) (bits bs), length-bits_of 8 b, length-bits bs)

-- ---- the bits of a number

pub bits_of-zero_width : (n : ℕ) → bits_of 0 n ≡ []
unfolding bits_of
bits_of-zero_width n = refl

pub bits_of-zero : (w : ℕ) → bits_of w 0 ≡ replicate w false
unfolding bits_of
bits_of-zero zero = refl
bits_of-zero (suc w) = rw (bit_at-zero w, bits_of-zero w) refl

-- a multiple of 2 ^ k changes none of the w low bits
pub bits_of-above : (w k a b : ℕ) → w ≤ k → bits_of w (a * 2 ^ k + b) ≡ bits_of w b
unfolding bits_of
bits_of-above zero k a b h = refl
bits_of-above (suc w) k a b h =
    let lt : w < k = omega arith in
    rw (bit_at_cat_low a k b w lt, bits_of-above w k a b (omega arith)) refl

pub bits_of-mod : (w n : ℕ) → bits_of w (n % 2 ^ w) ≡ bits_of w n
bits_of-mod w n = sym (bits_of-above w w (n / 2 ^ w) (n % 2 ^ w) (omega arith)) ∙ ap (bits_of w) (shr_split n w)

-- a number split in two: its high bits, then its low bits
pub bits_of-split : (a b n : ℕ) → bits_of (a + b) n ≡ bits_of a (n / 2 ^ b) ++ bits_of b n
unfolding bits_of
bits_of-split zero b n = ap (λ (k : ℕ). bits_of k n) (omega arith)
bits_of-split (suc a) b n =
    let head : bit_at n (a + b) ≡ bit_at (n / 2 ^ b) a = let e : b + a ≡ a + b = omega arith in rw (shr-shr n b a, e) refl in
    rw (suc-add a b, head, bits_of-split a b n) refl

-- ---- the bits of bytes

pub bits-one : (b : ℕ) → bits (b ∷ []) ≡ bits_of 8 b
unfolding bits
bits-one b = append-nil (bits_of 8 b)

pub bits-append : (xs ys : List ℕ) → bits (xs ++ ys) ≡ bits xs ++ bits ys
unfolding bits
bits-append [] ys = refl
bits-append (x ∷ xs) ys = ap (λ (t : List Bool). bits_of 8 x ++ t) (bits-append xs ys) ∙ sym (append_assoc (bits_of 8 x) (bits xs) (bits ys))

pub bits-take-drop : (k : ℕ) (bs : List ℕ) → bits bs ≡ bits (take k bs) ++ bits (drop k bs)
bits-take-drop k bs = ap bits (sym (take-append-drop k bs)) ∙ bits-append (take k bs) (drop k bs)

pub length-bits-take : (k : ℕ) (bs : List ℕ) → k ≤ length bs → length (bits (take k bs)) ≡ 8 * k
length-bits-take k bs h = omega (arith, length-bits (take k bs), length-take k bs)

pub bits-drop : (k : ℕ) (bs : List ℕ) → k ≤ length bs → bits (drop k bs) ≡ drop (8 * k) (bits bs)
bits-drop k bs h =
    sym (ap (λ (t : List Bool). drop (8 * k) t) (bits-take-drop k bs) ∙ drop_at (bits (take k bs)) (bits (drop k bs)) (8 * k) (length-bits-take k bs h))

-- the bits after the first n: whole bytes dropped, then at most 7 bits
pub drop-bits : (n : ℕ) (bs : List ℕ) → n / 8 ≤ length bs → drop (n % 8) (bits (drop (n / 8) bs)) ≡ drop n (bits bs)
drop-bits n bs h =
    let e : 8 * (n / 8) + n % 8 ≡ n = omega arith in
    rw (bits-drop (n / 8) bs h, drop-drop (n % 8) (8 * (n / 8)) (bits bs), e) refl
