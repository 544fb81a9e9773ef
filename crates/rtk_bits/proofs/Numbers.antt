-- Laws on lists of bits and their unsigned numbers: each is made from the other.
use Rattle.std.proofs.Common.{◌≡◌, ℕ, zero, suc, ◌+◌, ◌-◌, ◌*◌, ◌/◌, ◌%◌, ◌^◌, ◌<◌, ◌≤◌, Bool, true, false, List, [], ◌∷◌, ◌++◌, length, take, drop, refl, sym, ap, subst, ◌∙◌, arith, length-append}
use Rattle.std.specs.Prelude.{◌==◌}
use Rattle.std.specs.Int.{bit_at}
use Rattle.std.proofs.lemmas.List.{take-append-drop, length-take, length-drop}
use Rattle.std.proofs.lemmas.Nat.{pow-add, shr_high, mod_low, mod-pow-add}
use Rattle.std.proofs.lemmas.Nat.Bits.{bit_at-lt}
use Rattle.std.proofs.Math.Numerals.{one-add}
use Rattle.std.proofs.Math.Nat.{pow-succ'}
use Rattle.rtk_bits.specs.Bits.{bit, bits_of, unsigned}
use Rattle.rtk_bits.proofs.BitsLemmas.{bits_of-above}
pub use Rattle.rtk_bits.proofs.BitsLemmas.{length-bits_of, length-bits, bits-append}

pub pow_more : (k : ℕ) → 2 ^ suc k ≡ 2 * 2 ^ k
pow_more k = pow-succ' 2 k

pub unsigned_lt : (xs : List Bool) → unsigned xs < 2 ^ length xs
unfolding unsigned
unsigned_lt [] = omega arith
unsigned_lt (true ∷ xs) = omega (arith, unsigned_lt xs, pow_more (length xs))
unsigned_lt (false ∷ xs) = omega (arith, unsigned_lt xs, pow_more (length xs))

pub unsigned-append : (xs ys : List Bool) → unsigned (xs ++ ys) ≡ unsigned xs * 2 ^ length ys + unsigned ys
unfolding unsigned
unsigned-append [] ys = omega arith
unsigned-append (x ∷ xs) ys = rw (length-append xs ys, pow-add 2 (length xs) (length ys)) (omega (arith, unsigned-append xs ys))

bit-of_nat : (n : ℕ) → n < 2 → bit (n == 1) ≡ n
bit-of_nat zero h = refl
bit-of_nat (suc zero) h = refl
bit-of_nat (suc (suc n)) h = absurd (omega arith)

of_nat-bit : (b : Bool) → (bit b % 2 == 1) ≡ b
of_nat-bit true = refl
of_nat-bit false = refl

pub unsigned-bits_of : (w n : ℕ) → unsigned (bits_of w n) ≡ n % 2 ^ w
unfolding unsigned bits_of
unsigned-bits_of zero n = omega arith
unsigned-bits_of (suc w) n =
    rw (length-bits_of w n, bit-of_nat (bit_at n w) (bit_at-lt n w), unsigned-bits_of w n, ← one-add w) (sym (mod-pow-add n 1 w))

pub bits_of-unsigned : (xs : List Bool) → bits_of (length xs) (unsigned xs) ≡ xs
unfolding unsigned bits_of
bits_of-unsigned [] = refl
bits_of-unsigned (x ∷ xs) =
    rw (shr_high (bit x) (length xs) (unsigned xs) (unsigned_lt xs), of_nat-bit x, bits_of-above (length xs) (length xs) (bit x) (unsigned xs) (omega arith), bits_of-unsigned xs) refl

-- the number of the w bits after the first s: the number of all bits, shifted and masked
pub unsigned-field : (xs : List Bool) (s w : ℕ) → s + w ≤ length xs → unsigned (take w (drop s xs)) ≡ unsigned xs / 2 ^ (length xs - (s + w)) % 2 ^ w
unsigned-field xs s w h =
    let before = take s xs in
    let field = take w (drop s xs) in
    let after = drop w (drop s xs) in
    let len_field : length field ≡ w = omega (arith, length-take w (drop s xs), length-drop s xs) in
    let len_after : length after ≡ length xs - (s + w) = omega (arith, length-drop w (drop s xs), length-drop s xs) in
    let whole : xs ≡ before ++ (field ++ after) = sym (ap (λ (t : List Bool). before ++ t) (take-append-drop w (drop s xs)) ∙ take-append-drop s xs) in
    let parts : unsigned (before ++ (field ++ after)) ≡ (unsigned before * 2 ^ length field + unsigned field) * 2 ^ length after + unsigned after =
    rw (unsigned-append before (field ++ after), unsigned-append field after, length-append field after, pow-add 2 (length field) (length after)) (omega arith) in
    let high : unsigned xs / 2 ^ length after ≡ unsigned before * 2 ^ length field + unsigned field =
    rw (ap unsigned whole, parts) (shr_high (unsigned before * 2 ^ length field + unsigned field) (length after) (unsigned after) (unsigned_lt after)) in
    let low : (unsigned before * 2 ^ length field + unsigned field) % 2 ^ length field ≡ unsigned field = mod_low (unsigned before) (length field) (unsigned field) (unsigned_lt field) in
    sym (subst (λ (k : ℕ). unsigned xs / 2 ^ k % 2 ^ w ≡ unsigned field) len_after (subst (λ (k : ℕ). unsigned xs / 2 ^ length after % 2 ^ k ≡ unsigned field) len_field (rw high low)))
