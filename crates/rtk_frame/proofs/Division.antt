-- The division of bits is linear.
use Rattle.std.proofs.Common.{◌≡◌, ℕ, zero, suc, ◌+◌, ◌*◌, ◌/◌, ◌%◌, ◌^◌, ◌-◌, ◌<◌, ◌≤◌, Bool, true, false, not, cond, List, [], ◌∷◌, ◌++◌, length, refl, sym, ◌∙◌, ap, arith, length-append, ◌==◌}
use Rattle.std.specs.Prelude.{bit_xor}
use Rattle.std.specs.Int.{bit_at}
use Rattle.std.proofs.lemmas.Nat.Bits.{bit_at_xor, bit_at-lt, bit_at_cat_high}
use Rattle.std.proofs.lemmas.Bool.Decides.{nat_tests}
use Rattle.std.proofs.lemmas.Nat.{xor_comm}
use Rattle.rtk_bits.specs.Bits.{bits_of}
use Rattle.rtk_bits.proofs.PublicLaws.{length-bits_of, bits_of-above}
use Rattle.rtk_frame.specs.Checksum.{zeros, flip, generator, divide}

pub length_zeros : (n : ℕ) → length (zeros n) ≡ n
length_zeros zero = refl
length_zeros (suc n) = omega (arith, length_zeros n)

pub length_flip : (a b : List Bool) → length (flip a b) ≡ length b
length_flip [] b = refl
length_flip (x ∷ a) [] = refl
length_flip (x ∷ a) (y ∷ b) = omega (arith, length_flip a b)

flip_bit : (x y z : Bool) → cond (cond x (not y) y) (not z) z ≡ cond x (not (cond y (not z) z)) (cond y (not z) z)
flip_bit true true true = refl
flip_bit true true false = refl
flip_bit true false z = refl
flip_bit false y z = refl

pub flip_flip : (a b c : List Bool) → length a ≤ length b → flip (flip a b) c ≡ flip a (flip b c)
flip_flip [] b c h = refl
flip_flip (x ∷ a) [] c h = absurd (omega arith)
flip_flip (x ∷ a) (y ∷ b) [] h = refl
flip_flip (x ∷ a) (y ∷ b) (z ∷ c) h = rw (flip_bit x y z, flip_flip a b c (omega arith)) refl

-- zeros flip nothing
pub flip_none : (k : ℕ) (xs : List Bool) → flip (zeros k) xs ≡ xs
flip_none zero xs = refl
flip_none (suc k) [] = refl
flip_none (suc k) (x ∷ xs) = ap (λ z. x ∷ z) (flip_none k xs)

pub flip_pad : (a : List Bool) (k : ℕ) (xs : List Bool) → flip (a ++ zeros k) xs ≡ flip a xs
flip_pad [] k xs = flip_none k xs
flip_pad (b ∷ a) k [] = refl
flip_pad (b ∷ a) k (x ∷ xs) = ap (λ z. cond b (not x) x ∷ z) (flip_pad a k xs)

pub flip_zero : (y : Bool) → cond y (not false) false ≡ y
flip_zero true = refl
flip_zero false = refl

pub flip_onto : (ys : List Bool) (k : ℕ) (xs : List Bool) → flip (ys ++ zeros k) (zeros (length ys) ++ xs) ≡ ys ++ xs
flip_onto [] k xs = flip_none k xs
flip_onto (y ∷ ys) k xs = rw (flip_zero y, flip_onto ys k xs) refl

pub flip_halves : (a b c d : List Bool) → length a ≡ length c → flip (a ++ b) (c ++ d) ≡ flip a c ++ flip b d
flip_halves [] b [] d h = refl
flip_halves [] b (y ∷ c) d h = absurd (omega arith)
flip_halves (x ∷ a) b [] d h = absurd (omega arith)
flip_halves (x ∷ a) b (y ∷ c) d h = ap (λ z. cond x (not y) y ∷ z) (flip_halves a b c d (omega arith))

-- what is flipped before the division can be divided by itself
pub divide_flip : (n : ℕ) (zs xs : List Bool) → n + 24 ≤ length zs → divide n (flip zs (zeros n ++ xs)) ≡ flip (divide n zs) xs
unfolding divide
divide_flip zero zs xs h = refl
divide_flip (suc n) [] xs h = absurd (omega arith)
divide_flip (suc n) (true ∷ zs) xs h =
    ap (divide n) (sym (flip_flip generator zs (zeros n ++ xs) (omega (arith, length-bits_of 24 0x864CFB)))) ∙ divide_flip n (flip generator zs) xs (omega (arith, length_flip generator zs))
divide_flip (suc n) (false ∷ zs) xs h = divide_flip n zs xs (omega arith)

divide_nothing : (n : ℕ) → divide n [] ≡ []
unfolding divide
divide_nothing zero = refl
divide_nothing (suc n) = refl

pub divide_add : (m n : ℕ) (xs : List Bool) → divide (m + n) xs ≡ divide n (divide m xs)
unfolding divide
divide_add zero n xs = let e : 0 + n ≡ n = omega arith in ap (λ k. divide k xs) e
divide_add (suc m) n [] = divide_nothing (suc m + n) ∙ sym (divide_nothing n)
divide_add (suc m) n (x ∷ xs) = let e : suc m + n ≡ suc (m + n) = omega arith in ap (λ k. divide k (x ∷ xs)) e ∙ divide_add m n (cond x (flip generator xs) xs)

-- bits of numbers
xor_test : (a b c : ℕ) → a < 2 → b < 2 → c ≡ (a + b) % 2 → cond (a == 1) (not (b == 1)) (b == 1) ≡ (c == 1)
xor_test a b c ha hb e = grind (arith, nat_tests)

pub bits_cat : (n k a b : ℕ) → b < 2 ^ k → bits_of (n + k) (a * 2 ^ k + b) ≡ bits_of n a ++ bits_of k b
unfolding bits_of
bits_cat zero k a b h = let e : 0 + k ≡ k = omega arith in ap (λ m. bits_of m (a * 2 ^ k + b)) e ∙ bits_of-above k k a b (omega arith)
bits_cat (suc n) k a b h =
    let e : suc n + k ≡ suc (n + k) = omega arith in
    let d : n + k - k ≡ n = omega arith in
    let t : bit_at (a * 2 ^ k + b) (n + k) ≡ bit_at a n = bit_at_cat_high a k b (n + k) h (omega arith) ∙ ap (bit_at a) d in
    ap (λ m. bits_of m (a * 2 ^ k + b)) e ∙ ap (λ (v : ℕ). (v == 1) ∷ bits_of (n + k) (a * 2 ^ k + b)) t ∙ ap (λ z. (bit_at a n == 1) ∷ z) (bits_cat n k a b h)

xor_bit : (a b i : ℕ) → cond (bit_at a i == 1) (not (bit_at b i == 1)) (bit_at b i == 1) ≡ (bit_at (bit_xor a b) i == 1)
xor_bit a b i = xor_test (bit_at a i) (bit_at b i) (bit_at (bit_xor a b) i) (bit_at-lt a i) (bit_at-lt b i) (bit_at_xor a b i)

pub flip_bits : (n a b : ℕ) → flip (bits_of n a) (bits_of n b) ≡ bits_of n (bit_xor a b)
unfolding bits_of
flip_bits zero a b = refl
flip_bits (suc n) a b = rw (xor_bit a b n, flip_bits n a b) refl

-- a state of 32 bits in two parts
pub state_parts : (s : ℕ) → s < 2 ^ 32 → bits_of 32 s ≡ bits_of 8 (s / 2 ^ 24) ++ bits_of 24 (s % 2 ^ 24)
state_parts s h =
    let e : s ≡ s / 2 ^ 24 * 2 ^ 24 + s % 2 ^ 24 = omega arith in
    ap (bits_of 32) e ∙ bits_cat 8 24 (s / 2 ^ 24) (s % 2 ^ 24) (omega arith)

zero_byte : bits_of 8 0 ≡ zeros 8
unfolding bits_of
zero_byte = refl

pub state_shifted : (s : ℕ) → s < 2 ^ 32 → bits_of 32 (s * 2 ^ 8 % 2 ^ 32) ≡ bits_of 24 (s % 2 ^ 24) ++ zeros 8
state_shifted s h =
    let e : s * 2 ^ 8 % 2 ^ 32 ≡ s % 2 ^ 24 * 2 ^ 8 + 0 = omega arith in
    ap (bits_of 32) e ∙ bits_cat 24 8 (s % 2 ^ 24) 0 (omega arith) ∙ ap (λ z. bits_of 24 (s % 2 ^ 24) ++ z) zero_byte

-- what a table says of a byte
abbrev pub IsEntry : ℕ → ℕ → Type 0
IsEntry z t = bits_of 32 t ≡ divide 8 (bits_of 8 z ++ zeros 24) ++ zeros 8

-- eight steps of the division
pub byte_step : (s y t : ℕ) (xs : List Bool) → s < 2 ^ 32 → IsEntry (bit_xor (s / 2 ^ 24) y) t → divide 8 (flip (bits_of 32 s) (bits_of 8 y ++ xs)) ≡ flip (bits_of 32 (bit_xor (s * 2 ^ 8 % 2 ^ 32) t)) xs
byte_step s y t xs h entry =
    let hi : ℕ = bit_xor (s / 2 ^ 24) y in
    let low : List Bool = bits_of 24 (s % 2 ^ 24) in
    let shifted : List Bool = bits_of 32 (s * 2 ^ 8 % 2 ^ 32) in
    let lens : length (bits_of 8 (s / 2 ^ 24)) ≡ length (bits_of 8 y) = length-bits_of 8 (s / 2 ^ 24) ∙ sym (length-bits_of 8 y) in
    let whole : 8 + 24 ≤ length (bits_of 8 hi ++ zeros 24) = omega (arith, length-append (bits_of 8 hi) (zeros 24), length-bits_of 8 hi, length_zeros 24) in
    let enough : length (bits_of 32 t) ≤ length shifted = omega (arith, length-bits_of 32 (s * 2 ^ 8 % 2 ^ 32), length-bits_of 32 t) in
    ap (λ z. divide 8 (flip z (bits_of 8 y ++ xs))) (state_parts s h)
    ∙ ap (divide 8) (flip_halves (bits_of 8 (s / 2 ^ 24)) low (bits_of 8 y) xs lens)
    ∙ ap (λ z. divide 8 (z ++ flip low xs)) (flip_bits 8 (s / 2 ^ 24) y)
    ∙ ap (divide 8) (sym (flip_onto (bits_of 8 hi) 24 (flip low xs)) ∙ ap (λ n. flip (bits_of 8 hi ++ zeros 24) (zeros n ++ flip low xs)) (length-bits_of 8 hi))
    ∙ divide_flip 8 (bits_of 8 hi ++ zeros 24) (flip low xs) whole
    ∙ sym (flip_pad (divide 8 (bits_of 8 hi ++ zeros 24)) 8 (flip low xs))
    ∙ ap (λ z. flip z (flip low xs)) (sym entry)
    ∙ ap (flip (bits_of 32 t)) (sym (ap (λ z. flip z xs) (state_shifted s h) ∙ flip_pad low 8 xs))
    ∙ sym (flip_flip (bits_of 32 t) shifted xs enough)
    ∙ ap (λ z. flip z xs) (flip_bits 32 t (s * 2 ^ 8 % 2 ^ 32) ∙ ap (bits_of 32) (xor_comm t (s * 2 ^ 8 % 2 ^ 32)))
