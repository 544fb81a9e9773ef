-- The checksum of the last part of a text, from those of the text and of the part before it.
use Rattle.std.proofs.Common.{◌≡◌, ℕ, zero, suc, ◌+◌, ◌-◌, ◌*◌, ◌/◌, ◌%◌, ◌^◌, ◌<◌, ◌≤◌, Bool, true, false, not, cond, List, [], ◌∷◌, ◌++◌, length, get_or, get_or-drop, drop, lit<, refl, sym, ◌∙◌, ap, subst, arith, append_assoc, append-nil, length-append, nat_lt, ◌==◌, ◌&&◌}
use Rattle.std.specs.Prelude.{bit_xor}
use Rattle.std.proofs.lemmas.Nat.{xor_comm, xor_lt, xor_of_8, xor_of_32}
use Rattle.std.proofs.lemmas.Bool.Decides.{nat_tests}
use lib.Bits.{xor_zero_r}
use native.Mathlib.Nat.{pow-succ'}
use Rattle.rtk_bits.specs.Bits.{bits_of, bits, unsigned}
use Rattle.rtk_bits.proofs.PublicLaws.{length-bits_of, unsigned_lt, unsigned-bits_of}
use Rattle.rtk_frame.specs.Checksum.{zeros, flip, generator, divide, crc}
use Rattle.rtk_frame.specs.Steps.Product.{after_zeros, rest_of, IsPower}
use Rattle.rtk_frame.specs.Steps.Remainder.{remainder}
use Rattle.rtk_frame.specs.Steps.Tables.{word_of}
use Rattle.rtk_frame.specs.declared.checksum_powers.TheConstants.{POWERS}
use Rattle.rtk_frame.proofs.Division.{length_zeros, length_flip, flip_none, flip_pad, flip_onto, flip_halves, flip_bits, divide_flip, divide_add, bits_cat, byte_step}
use Rattle.rtk_frame.proofs.ByteTable.{table_entry}
use Rattle.rtk_frame.proofs.Remainder.{next, crc_remainder, crc_end, flip_end}
use Rattle.rtk_frame.proofs.Blocks.{length_bits, bits_append, flip_nothing, flip_twice, divide_sum, length_divide, zeros_add, generator_length, three, word_lt, peel, peel_more, column}

one_bit : (x : Bool) (n : ℕ) (v : ℕ) → v < 2 ^ n → bits_of (suc n) (cond x 1 0 * 2 ^ n + v) ≡ x ∷ bits_of n v
unfolding bits_of
one_bit true n v h = let e : 1 + n ≡ suc n = omega arith in ap (λ k. bits_of k (1 * 2 ^ n + v)) (sym e) ∙ bits_cat 1 n 1 v h
one_bit false n v h = let e : 1 + n ≡ suc n = omega arith in ap (λ k. bits_of k (0 * 2 ^ n + v)) (sym e) ∙ bits_cat 1 n 0 v h

number_bits : (xs : List Bool) → bits_of (length xs) (unsigned xs) ≡ xs
unfolding unsigned bits_of
number_bits [] = refl
number_bits (true ∷ xs) = one_bit true (length xs) (unsigned xs) (unsigned_lt xs) ∙ ap (λ z. true ∷ z) (number_bits xs)
number_bits (false ∷ xs) = one_bit false (length xs) (unsigned xs) (unsigned_lt xs) ∙ ap (λ z. false ∷ z) (number_bits xs)

-- numbers of 24 bits with the same bits are the same
same_number : (a b : ℕ) → a < 2 ^ 24 → b < 2 ^ 24 → bits_of 24 a ≡ bits_of 24 b → a ≡ b
same_number a b h k e = let u : a % 2 ^ 24 ≡ b % 2 ^ 24 = sym (unsigned-bits_of 24 a) ∙ ap unsigned e ∙ unsigned-bits_of 24 b in omega arith

-- ---- the remainder of a text is its checksum
remainder_whole : (b : List ℕ) → remainder 0 b ≡ divide (8 * length b) (bits b ++ zeros 24)
unfolding remainder bits_of
remainder_whole b = ap (divide (8 * length b)) (flip_none 32 (bits b ++ zeros 24))

length_stream : (b : List ℕ) → length (bits b ++ zeros 24) ≡ 8 * length b + 24
length_stream b = omega (arith, length-append (bits b) (zeros 24), length_bits b, length_zeros 24)

remainder_length : (b : List ℕ) → length (remainder 0 b) ≡ 24
remainder_length b = ap length (remainder_whole b) ∙ omega (arith, length_divide (8 * length b) (bits b ++ zeros 24), length_stream b)

pub crc_lt : (b : List ℕ) → crc b < 2 ^ 24
crc_lt b = omega (arith, crc_remainder b, unsigned_lt (remainder 0 b), ap (λ n. 2 ^ n) (remainder_length b))

crc_bits : (b : List ℕ) → bits_of 24 (crc b) ≡ remainder 0 b
crc_bits b = ap (bits_of 24) (crc_remainder b) ∙ ap (λ n. bits_of n (unsigned (remainder 0 b))) (sym (remainder_length b)) ∙ number_bits (remainder 0 b)

-- ---- a text in two parts
eight_zeros : bits_of 8 0 ≡ zeros 8
unfolding bits_of
eight_zeros = refl

-- a checksum as a state of 32 bits
state_bits : (c : ℕ) → bits_of 32 (c * 2 ^ 8) ≡ bits_of 24 c ++ zeros 8
state_bits c = let e : c * 2 ^ 8 ≡ c * 2 ^ 8 + 0 = omega arith in ap (bits_of 32) e ∙ bits_cat 24 8 c 0 (omega arith) ∙ ap (λ z. bits_of 24 c ++ z) eight_zeros

front_divided : (a : List ℕ) (ys : List Bool) → divide (8 * length a) (bits a ++ ys) ≡ flip (bits_of 24 (crc a)) ys
front_divided a ys =
    let n : ℕ = 8 * length a in
    ap (divide n) (sym (flip_onto (bits a) 24 ys) ∙ ap (λ k. flip (bits a ++ zeros 24) (zeros k ++ ys)) (length_bits a))
    ∙ divide_flip n (bits a ++ zeros 24) ys (omega (arith, length_stream a))
    ∙ ap (λ z. flip z ys) (sym (crc_bits a ∙ remainder_whole a))

-- the second part is divided from the checksum of the first part on
pub remainder_append : (a b : List ℕ) → remainder 0 (a ++ b) ≡ remainder (crc a * 2 ^ 8) b
unfolding remainder
remainder_append a b =
    let ys : List Bool = bits b ++ zeros 24 in
    let n : 8 * length (a ++ b) ≡ 8 * length a + 8 * length b = omega (arith, length-append a b) in
    remainder_whole (a ++ b)
    ∙ ap (λ z. divide (8 * length (a ++ b)) (z ++ zeros 24)) (bits_append a b)
    ∙ ap (divide (8 * length (a ++ b))) (append_assoc (bits a) (bits b) (zeros 24))
    ∙ ap (λ k. divide k (bits a ++ ys)) n
    ∙ divide_add (8 * length a) (8 * length b) (bits a ++ ys)
    ∙ ap (divide (8 * length b)) (front_divided a ys ∙ sym (ap (λ z. flip z ys) (state_bits (crc a)) ∙ flip_pad (bits_of 24 (crc a)) 8 ys))

-- one byte more
next_lt : (s y : ℕ) → s < 2 ^ 32 → y < 256 → next s y < 2 ^ 32
next_lt s y h b = xor_of_32 (s * 2 ^ 8 % 2 ^ 32) (word_of 0 (bit_xor (s / 2 ^ 24) y)) (omega arith) (word_lt 0 (bit_xor (s / 2 ^ 24) y) (lit< tt) (xor_of_8 (s / 2 ^ 24) y (omega arith) b))

pub crc_with : (text : List ℕ) (c y r : ℕ) → c ≡ crc text → r < 2 ^ 32 → remainder r [] ≡ remainder (c * 2 ^ 8) (y ∷ []) → r / 2 ^ 8 ≡ crc (text ++ y ∷ [])
crc_with text c y r e h next = crc_end r (text ++ y ∷ []) h (next ∙ sym (remainder_append text (y ∷ []) ∙ ap (λ z. remainder (z * 2 ^ 8) (y ∷ [])) (sym e)))

-- ---- zero bytes after a checksum

length_shiftee : (n c : ℕ) → length (bits_of 24 c ++ zeros (8 * n)) ≡ 8 * n + 24
length_shiftee n c = omega (arith, length-append (bits_of 24 c) (zeros (8 * n)), length-bits_of 24 c, length_zeros (8 * n))

-- a text is the sum of its first part before zero bytes, and its last part
parts_sum : (c : ℕ) (b : List ℕ) → remainder (c * 2 ^ 8) b ≡ flip (after_zeros (length b) c) (remainder 0 b)
unfolding remainder
parts_sum c b =
    let n : ℕ = 8 * length b in
    let ys : List Bool = bits b ++ zeros 24 in
    ap (divide n) (ap (λ z. flip z ys) (state_bits c) ∙ flip_pad (bits_of 24 c) 8 ys ∙ sym (flip_pad (bits_of 24 c) n ys))
    ∙ divide_sum n (bits_of 24 c ++ zeros n) ys (length_shiftee (length b) c ∙ sym (length_stream b)) (omega (arith, length_shiftee (length b) c))
    ∙ ap (flip (after_zeros (length b) c)) (sym (remainder_whole b))

-- so the last part's checksum is the sum of the text's, and of the first part's before zero bytes
pub last_part : (front last : List ℕ) (whole before r : ℕ) → before ≡ crc front → whole ≡ crc (front ++ last) → r < 2 ^ 24 → bits_of 24 r ≡ after_zeros (length last) before → bit_xor whole r ≡ crc last
last_part front last whole before r f w h e =
    let all : bits_of 24 whole ≡ flip (bits_of 24 r) (bits_of 24 (crc last)) =
    ap (bits_of 24) w ∙ crc_bits (front ++ last) ∙ remainder_append front last ∙ ap (λ z. remainder (z * 2 ^ 8) last) (sym f)
    ∙ parts_sum before last ∙ ap (λ z. flip z (remainder 0 last)) (sym e) ∙ ap (flip (bits_of 24 r)) (sym (crc_bits last)) in
    let lt : whole < 2 ^ 24 = omega (arith, w, crc_lt (front ++ last)) in
    same_number (bit_xor whole r) (crc last) (xor_lt 24 whole r lt h) (crc_lt last)
    (ap (bits_of 24) (xor_comm whole r) ∙ sym (flip_bits 24 r whole) ∙ ap (flip (bits_of 24 r)) all ∙ flip_twice (bits_of 24 r) (bits_of 24 (crc last)))

-- ---- one zero bit more

flip_front : (a xs ys : List Bool) → length a ≤ length xs → flip a (xs ++ ys) ≡ flip a xs ++ ys
flip_front [] xs ys h = refl
flip_front (x ∷ a) [] ys h = absurd (omega arith)
flip_front (x ∷ a) (z ∷ xs) ys h = ap (λ w. cond x (not z) z ∷ w) (flip_front a xs ys (omega arith))

-- bits behind those that the division reaches stay
divide_front : (n : ℕ) (xs ys : List Bool) → n + 24 ≤ length xs → divide n (xs ++ ys) ≡ divide n xs ++ ys
unfolding divide
divide_front zero xs ys h = refl
divide_front (suc n) [] ys h = absurd (omega arith)
divide_front (suc n) (false ∷ xs) ys h = divide_front n xs ys (omega arith)
divide_front (suc n) (true ∷ xs) ys h =
    ap (divide n) (flip_front generator xs ys (generator_length n xs h)) ∙ divide_front n (flip generator xs) ys (omega (arith, length_flip generator xs))

-- a remainder times x
abbrev times_x : List Bool → List Bool
times_x t = divide 1 (t ++ false ∷ [])

no_bit : bits_of 1 0 ≡ false ∷ []
unfolding bits_of
no_bit = refl

-- the bits of a doubled number
doubled : (w q : ℕ) → q * 2 < 2 ^ suc w → bits_of (suc w) q ++ false ∷ [] ≡ false ∷ bits_of (suc w) (q * 2)
doubled w q h =
    let e : q * 2 ≡ q * 2 ^ 1 + 0 = omega arith in
    let s : suc w + 1 ≡ suc (suc w) = omega arith in
    sym (ap (λ k. bits_of k (q * 2)) (sym s) ∙ ap (bits_of (suc w + 1)) e ∙ bits_cat (suc w) 1 q 0 (omega arith) ∙ ap (λ z. bits_of (suc w) q ++ z) no_bit)
    ∙ (let z : q * 2 ≡ 0 * 2 ^ suc w + q * 2 = omega arith in ap (bits_of (suc (suc w))) z ∙ one_bit false (suc w) (q * 2) h)

skip_zero : (n : ℕ) (xs : List Bool) → divide (n + 1) (false ∷ xs) ≡ divide n xs
unfolding divide
skip_zero n xs = let e : n + 1 ≡ suc n = omega arith in ap (λ k. divide k (false ∷ xs)) e

pub rest_doubled : (q : ℕ) → q < 2 ^ 47 → rest_of (q * 2) ≡ times_x (rest_of q)
rest_doubled q h =
    sym (skip_zero 24 (bits_of 48 (q * 2)))
    ∙ ap (divide (24 + 1)) (sym (doubled 47 q (omega arith)))
    ∙ divide_add 24 1 (bits_of 48 q ++ false ∷ [])
    ∙ ap (divide 1) (divide_front 24 (bits_of 48 q) (false ∷ []) (omega (arith, length-bits_of 48 q)))

zeros_turn : (n : ℕ) → false ∷ zeros n ≡ zeros n ++ false ∷ []
zeros_turn zero = refl
zeros_turn (suc n) = ap (λ z. false ∷ z) (zeros_turn n)

-- what remains of bits with n zero bytes after them
bits_before : ℕ → List Bool → List Bool
bits_before n xs = divide (length xs + 8 * n) (zeros 24 ++ (xs ++ zeros (8 * n)))

length_before : (n : ℕ) (xs : List Bool) → length (zeros 24 ++ (xs ++ zeros (8 * n))) ≡ length xs + 8 * n + 24
length_before n xs = omega (arith, length-append (zeros 24) (xs ++ zeros (8 * n)), length-append xs (zeros (8 * n)), length_zeros (8 * n))

before_even : (n : ℕ) (xs : List Bool) → bits_before n (xs ++ false ∷ []) ≡ times_x (bits_before n xs)
unfolding bits_before
before_even n xs =
    let m : ℕ = 8 * n in
    let k : length (xs ++ false ∷ []) + m ≡ (length xs + m) + 1 = omega (arith, length-append xs (false ∷ [])) in
    let turn : (xs ++ false ∷ []) ++ zeros m ≡ (xs ++ zeros m) ++ false ∷ [] = append_assoc xs (false ∷ []) (zeros m) ∙ ap (λ z. xs ++ z) (zeros_turn m) ∙ sym (append_assoc xs (zeros m) (false ∷ [])) in
    ap (λ j. divide j (zeros 24 ++ ((xs ++ false ∷ []) ++ zeros m))) k
    ∙ ap (λ z. divide ((length xs + m) + 1) (zeros 24 ++ z)) turn
    ∙ ap (divide ((length xs + m) + 1)) (sym (append_assoc (zeros 24) (xs ++ zeros m) (false ∷ [])))
    ∙ divide_add (length xs + m) 1 ((zeros 24 ++ (xs ++ zeros m)) ++ false ∷ [])
    ∙ ap (divide 1) (divide_front (length xs + m) (zeros 24 ++ (xs ++ zeros m)) (false ∷ []) (omega (arith, length_before n xs)))

-- ---- and one

zero_24 : bits_of 24 0 ≡ zeros 24
unfolding bits_of
zero_24 = refl

zero_23 : bits_of 23 0 ≡ zeros 23
unfolding bits_of
zero_23 = refl

divide_nought : (n : ℕ) (xs : List Bool) → divide n (zeros n ++ xs) ≡ xs
unfolding divide
divide_nought zero xs = refl
divide_nought (suc n) xs = divide_nought n xs

rest_small : (p : ℕ) → p < 2 ^ 24 → rest_of p ≡ bits_of 24 p
rest_small p h =
    let e : p ≡ 0 * 2 ^ 24 + p = omega arith in
    ap (λ k. divide 24 (bits_of 48 k)) e ∙ ap (divide 24) (bits_cat 24 24 0 p h ∙ ap (λ z. z ++ bits_of 24 p) zero_24) ∙ divide_nought 24 (bits_of 24 p)

pub rest_sum : (q p : ℕ) → p < 2 ^ 24 → rest_of (bit_xor q p) ≡ flip (bits_of 24 p) (rest_of q)
rest_sum q p h =
    ap rest_of (xor_comm q p) ∙ ap (divide 24) (sym (flip_bits 48 p q))
    ∙ divide_sum 24 (bits_of 48 p) (bits_of 48 q) (length-bits_of 48 p ∙ sym (length-bits_of 48 q)) (omega (arith, length-bits_of 48 p))
    ∙ ap (λ z. flip z (rest_of q)) (rest_small p h)

low_bit : bits_of 1 1 ≡ true ∷ []
unfolding bits_of
low_bit = refl

one_24 : bits_of 24 1 ≡ zeros 23 ++ true ∷ []
unfolding bits_of
one_24 = refl

-- a set bit behind zeros is the number 1
lone_bit : (n k : ℕ) → divide (k + 1 + 8 * n) (zeros 24 ++ ((zeros k ++ true ∷ []) ++ zeros (8 * n))) ≡ after_zeros n 1
lone_bit n k =
    let m : ℕ = 8 * n in
    let e : 24 + k ≡ k + 1 + 23 = omega arith in
    let front : zeros 24 ++ (zeros k ++ true ∷ []) ≡ zeros (k + 1) ++ bits_of 24 1 =
    sym (append_assoc (zeros 24) (zeros k) (true ∷ [])) ∙ ap (λ z. z ++ true ∷ []) (sym (zeros_add 24 k) ∙ ap zeros e ∙ zeros_add (k + 1) 23)
    ∙ append_assoc (zeros (k + 1)) (zeros 23) (true ∷ []) ∙ ap (λ z. zeros (k + 1) ++ z) (sym one_24) in
    ap (divide (k + 1 + m)) (sym (append_assoc (zeros 24) (zeros k ++ true ∷ []) (zeros m)) ∙ ap (λ z. z ++ zeros m) front ∙ append_assoc (zeros (k + 1)) (bits_of 24 1) (zeros m))
    ∙ divide_add (k + 1) m (zeros (k + 1) ++ (bits_of 24 1 ++ zeros m))
    ∙ ap (divide m) (divide_nought (k + 1) (bits_of 24 1 ++ zeros m))

set_last : (xs : List Bool) → flip (zeros (length xs) ++ true ∷ []) (xs ++ false ∷ []) ≡ xs ++ true ∷ []
set_last xs = flip_halves (zeros (length xs)) (true ∷ []) xs (false ∷ []) (length_zeros (length xs)) ∙ ap (λ z. z ++ true ∷ []) (flip_none (length xs) xs)

before_odd : (n : ℕ) (xs : List Bool) → bits_before n (xs ++ true ∷ []) ≡ flip (after_zeros n 1) (bits_before n (xs ++ false ∷ []))
unfolding bits_before
before_odd n xs =
    let m : ℕ = 8 * n in
    let one : List Bool = zeros (length xs) ++ true ∷ [] in
    let even : List Bool = xs ++ false ∷ [] in
    let k : ℕ = length xs + 1 + m in
    let kt : length (xs ++ true ∷ []) + m ≡ k = omega (arith, length-append xs (true ∷ [])) in
    let kf : length even + m ≡ k = omega (arith, length-append xs (false ∷ [])) in
    let l1 : length one ≡ length even = omega (arith, length-append (zeros (length xs)) (true ∷ []), length_zeros (length xs), length-append xs (false ∷ [])) in
    let ls : length (zeros 24 ++ (one ++ zeros m)) ≡ k + 24 = omega (arith, length_before n one, l1, length-append xs (false ∷ [])) in
    let le : length (zeros 24 ++ (even ++ zeros m)) ≡ k + 24 = omega (arith, length_before n even, length-append xs (false ∷ [])) in
    let sum : flip (zeros 24 ++ (one ++ zeros m)) (zeros 24 ++ (even ++ zeros m)) ≡ zeros 24 ++ ((xs ++ true ∷ []) ++ zeros m) =
    flip_halves (zeros 24) (one ++ zeros m) (zeros 24) (even ++ zeros m) refl
    ∙ ap (λ z. zeros 24 ++ z) (flip_halves one (zeros m) even (zeros m) l1 ∙ ap (λ z. z ++ flip (zeros m) (zeros m)) (set_last xs) ∙ ap (λ z. (xs ++ true ∷ []) ++ z) (flip_none m (zeros m))) in
    ap (λ j. divide j (zeros 24 ++ ((xs ++ true ∷ []) ++ zeros m))) kt
    ∙ ap (divide k) (sym sum)
    ∙ divide_sum k (zeros 24 ++ (one ++ zeros m)) (zeros 24 ++ (even ++ zeros m)) (ls ∙ sym le) (omega (arith, ls))
    ∙ ap (λ z. flip z (divide k (zeros 24 ++ (even ++ zeros m)))) (lone_bit n (length xs))
    ∙ ap (λ j. flip (after_zeros n 1) (divide j (zeros 24 ++ (even ++ zeros m)))) (sym kf)

before_nothing : (n : ℕ) → bits_before n [] ≡ zeros 24
unfolding bits_before
before_nothing n =
    let m : ℕ = 8 * n in
    let e : 24 + m ≡ m + 24 = omega arith in
    let z : 0 + m ≡ m = omega arith in
    ap (λ j. divide j (zeros 24 ++ zeros m)) z ∙ ap (divide m) (sym (zeros_add 24 m) ∙ ap zeros e ∙ zeros_add m 24) ∙ divide_nought m (zeros 24)

before_number : (n c : ℕ) → bits_before n (bits_of 24 c) ≡ after_zeros n c
unfolding bits_before
before_number n c =
    ap (λ j. divide (j + 8 * n) (zeros 24 ++ (bits_of 24 c ++ zeros (8 * n)))) (length-bits_of 24 c)
    ∙ divide_add 24 (8 * n) (zeros 24 ++ (bits_of 24 c ++ zeros (8 * n))) ∙ ap (divide (8 * n)) (divide_nought 24 (bits_of 24 c ++ zeros (8 * n)))

rest_nothing : rest_of 0 ≡ zeros 24
unfolding divide bits_of
rest_nothing = refl

-- ---- the table of powers

-- a checksum with one zero byte after it
zero_byte_more : (n c p : ℕ) → p < 2 ^ 24 → bits_of 24 p ≡ after_zeros n c → bits_of 24 (next (p * 2 ^ 8) 0 / 2 ^ 8) ≡ after_zeros (suc n) c
zero_byte_more n c p h e =
    let m : ℕ = 8 * n in
    let s : 8 * suc n ≡ m + 8 = omega arith in
    let small : p * 2 ^ 8 < 2 ^ 32 = omega arith in
    let t : ℕ = next (p * 2 ^ 8) 0 in
    let l : t < 2 ^ 32 = next_lt (p * 2 ^ 8) 0 small (omega arith) in
    let parts : bits_of 32 t ≡ bits_of 24 (t / 2 ^ 8) ++ bits_of 8 (t % 2 ^ 8) = (let d : t ≡ t / 2 ^ 8 * 2 ^ 8 + t % 2 ^ 8 = omega arith in ap (bits_of 32) d ∙ bits_cat 24 8 (t / 2 ^ 8) (t % 2 ^ 8) (omega arith)) in
    let long : divide m ((bits_of 24 c ++ zeros m) ++ zeros 8) ≡ bits_of 24 p ++ zeros 8 = divide_front m (bits_of 24 c ++ zeros m) (zeros 8) (omega (arith, length_shiftee n c)) ∙ ap (λ z. z ++ zeros 8) (sym e) in
    let whole : flip (bits_of 32 (p * 2 ^ 8)) (bits_of 8 0 ++ zeros 24) ≡ bits_of 24 p ++ zeros 8 =
    ap (λ z. flip (bits_of 32 (p * 2 ^ 8)) (z ++ zeros 24)) eight_zeros
    ∙ ap (λ z. flip z (zeros 32)) (sym (append-nil (bits_of 32 (p * 2 ^ 8)))) ∙ flip_end (bits_of 32 (p * 2 ^ 8)) [] 32 (length-bits_of 32 (p * 2 ^ 8)) ∙ state_bits p in
    let here : divide 8 (bits_of 24 p ++ zeros 8) ≡ bits_of 24 (t / 2 ^ 8) =
    ap (divide 8) (sym whole)
    ∙ byte_step (p * 2 ^ 8) 0 (word_of 0 (bit_xor (p * 2 ^ 8 / 2 ^ 24) 0)) (zeros 24) small (table_entry (bit_xor (p * 2 ^ 8 / 2 ^ 24) 0) (xor_of_8 (p * 2 ^ 8 / 2 ^ 24) 0 (omega arith) (omega arith)))
    ∙ ap (λ z. flip z (zeros 24)) parts ∙ flip_end (bits_of 24 (t / 2 ^ 8)) (bits_of 8 (t % 2 ^ 8)) 24 (length-bits_of 24 (t / 2 ^ 8)) in
    sym (ap (λ k. divide k (bits_of 24 c ++ zeros k)) s
    ∙ ap (λ z. divide (m + 8) (bits_of 24 c ++ z)) (zeros_add m 8)
    ∙ ap (divide (m + 8)) (sym (append_assoc (bits_of 24 c) (zeros m) (zeros 8)))
    ∙ divide_add m 8 ((bits_of 24 c ++ zeros m) ++ zeros 8)
    ∙ ap (divide 8) long ∙ here)

-- each number of qs follows from its number of ps by one zero byte
chained : List ℕ → List ℕ → Bool
chained ps [] = true
chained [] (q ∷ qs) = false
chained (p ∷ ps) (q ∷ qs) = nat_lt q (2 ^ 24) && ((q == next (p * 2 ^ 8) 0 / 2 ^ 8) && chained ps qs)

Follows : ℕ → ℕ → Type 0
Follows p q = (q < 2 ^ 24) × (q ≡ next (p * 2 ^ 8) 0 / 2 ^ 8)

chained_at : (ps qs : List ℕ) (i : ℕ) → chained ps qs ≡ true → i < length qs → Follows (get_or ps i 0) (get_or qs i 0)
unfolding chained Follows
chained_at ps [] i h l = absurd (omega arith)
chained_at [] (q ∷ qs) i h l = absurd (cc)
chained_at (p ∷ ps) (q ∷ qs) zero h l =
    let t = three (nat_lt q (2 ^ 24)) (q == next (p * 2 ^ 8) 0 / 2 ^ 8) (chained ps qs) h in
    (grind (arith, nat_tests, t.0), grind (arith, nat_tests, t.1))
chained_at (p ∷ ps) (q ∷ qs) (suc i) h l =
    let t = three (nat_lt q (2 ^ 24)) (q == next (p * 2 ^ 8) 0 / 2 ^ 8) (chained ps qs) h in chained_at ps qs i t.2 (omega arith)

powers_test : chained POWERS (drop 1 POWERS) ≡ true
unfolding chained word_of
powers_test = refl

first_power : after_zeros 0 1 ≡ bits_of 24 1
unfolding divide
first_power = append-nil (bits_of 24 1)

power_next : (n p q : ℕ) → Follows p q → IsPower n p → IsPower (suc n) q
unfolding Follows
power_next n p q f h = record { small = f.0; power = ap (bits_of 24) f.1 ∙ zero_byte_more n 1 p h.small h.power }

pub power_at : (n : ℕ) → n < 1027 → IsPower n (get_or POWERS n 0)
power_at zero h = record { small = lit< tt; power = sym first_power }
power_at (suc n) h =
    let f : Follows (get_or POWERS n 0) (get_or (drop 1 POWERS) n 0) = chained_at POWERS (drop 1 POWERS) n powers_test (omega arith) in
    let e : 1 + n ≡ suc n = omega arith in
    power_next n (get_or POWERS n 0) (get_or POWERS (suc n) 0) (rw (get_or-drop 1 POWERS n 0, e) at f) (power_at n (omega arith))

-- ---- the reduction of 48 bits

-- the last bits are lost where nothing stands before them
cut_end : (a b xs : List Bool) → length xs ≤ length a → flip (a ++ b) xs ≡ flip a xs
cut_end [] b [] h = flip_nothing b
cut_end [] b (x ∷ xs) h = absurd (omega arith)
cut_end (y ∷ a) b [] h = refl
cut_end (y ∷ a) b (x ∷ xs) h = ap (λ z. cond y (not x) x ∷ z) (cut_end a b xs (omega arith))

-- 48 bits as three bytes and 24 bits
four_parts : (q : ℕ) → q < 2 ^ 48 → bits_of 48 q ≡ bits_of 8 (q / 2 ^ 40) ++ (bits_of 8 (q / 2 ^ 32 % 256) ++ (bits_of 8 (q / 2 ^ 24 % 256) ++ bits_of 24 (q % 2 ^ 24)))
four_parts q h =
    let e1 : q ≡ q / 2 ^ 40 * 2 ^ 40 + q % 2 ^ 40 = omega arith in
    let e2 : q % 2 ^ 40 ≡ q / 2 ^ 32 % 256 * 2 ^ 32 + q % 2 ^ 32 = omega arith in
    let e3 : q % 2 ^ 32 ≡ q / 2 ^ 24 % 256 * 2 ^ 24 + q % 2 ^ 24 = omega arith in
    ap (bits_of 48) e1 ∙ bits_cat 8 40 (q / 2 ^ 40) (q % 2 ^ 40) (omega arith)
    ∙ ap (λ w. bits_of 8 (q / 2 ^ 40) ++ w) (ap (bits_of 40) e2 ∙ bits_cat 8 32 (q / 2 ^ 32 % 256) (q % 2 ^ 32) (omega arith)
    ∙ ap (λ w. bits_of 8 (q / 2 ^ 32 % 256) ++ w) (ap (bits_of 32) e3 ∙ bits_cat 8 24 (q / 2 ^ 24 % 256) (q % 2 ^ 24) (omega arith)))

-- the entries of three bytes, each with the bytes after it zero
abbrev pub entries_of : ℕ → ℕ
entries_of q = bit_xor (bit_xor (word_of 2 (q / 2 ^ 40)) (word_of 1 (q / 2 ^ 32 % 256))) (word_of 0 (q / 2 ^ 24 % 256))

entries_lt : (q : ℕ) → q < 2 ^ 48 → entries_of q < 2 ^ 32
entries_lt q h =
    let t2 : ℕ = word_of 2 (q / 2 ^ 40) in
    let t1 : ℕ = word_of 1 (q / 2 ^ 32 % 256) in
    xor_of_32 (bit_xor t2 t1) (word_of 0 (q / 2 ^ 24 % 256)) (xor_of_32 t2 t1 (word_lt 2 (q / 2 ^ 40) (lit< tt) (omega arith)) (word_lt 1 (q / 2 ^ 32 % 256) (lit< tt) (omega arith))) (word_lt 0 (q / 2 ^ 24 % 256) (lit< tt) (omega arith))

pub reduced_lt : (q : ℕ) → q < 2 ^ 48 → bit_xor (entries_of q / 2 ^ 8) (q % 2 ^ 24) < 2 ^ 24
reduced_lt q h = let l = entries_lt q h in xor_lt 24 (entries_of q / 2 ^ 8) (q % 2 ^ 24) (omega arith) (omega arith)

pub rest_reduced : (q : ℕ) → q < 2 ^ 48 → bits_of 24 (bit_xor (entries_of q / 2 ^ 8) (q % 2 ^ 24)) ≡ rest_of q
unfolding divide
rest_reduced q h =
    let z2 : ℕ = q / 2 ^ 40 in
    let z1 : ℕ = q / 2 ^ 32 % 256 in
    let z0 : ℕ = q / 2 ^ 24 % 256 in
    let t2 : ℕ = word_of 2 z2 in
    let t1 : ℕ = word_of 1 z1 in
    let t0 : ℕ = word_of 0 z0 in
    let low : List Bool = bits_of 24 (q % 2 ^ 24) in
    let r1 : List Bool = bits_of 8 z0 ++ low in
    let r2 : List Bool = bits_of 8 z1 ++ r1 in
    let l0 : length low ≡ 24 = length-bits_of 24 (q % 2 ^ 24) in
    let l1 : length r1 ≡ 32 = omega (arith, length-append (bits_of 8 z0) low, length-bits_of 8 z0, l0) in
    let l2 : length r2 ≡ 40 = omega (arith, length-append (bits_of 8 z1) r1, length-bits_of 8 z1, l1) in
    let t : ℕ = entries_of q in
    let l : t < 2 ^ 32 = entries_lt q h in
    let parts : bits_of 32 t ≡ bits_of 24 (t / 2 ^ 8) ++ bits_of 8 (t % 2 ^ 8) = (let d : t ≡ t / 2 ^ 8 * 2 ^ 8 + t % 2 ^ 8 = omega arith in ap (bits_of 32) d ∙ bits_cat 24 8 (t / 2 ^ 8) (t % 2 ^ 8) (omega arith)) in
    sym (flip_bits 24 (t / 2 ^ 8) (q % 2 ^ 24))
    ∙ sym (cut_end (bits_of 24 (t / 2 ^ 8)) (bits_of 8 (t % 2 ^ 8)) low (omega (arith, l0, length-bits_of 24 (t / 2 ^ 8))))
    ∙ ap (λ z. flip z low) (sym parts)
    ∙ sym (ap (divide 24) (four_parts q h)
    ∙ peel 16 z2 t2 r2 (column 2 z2 (lit< tt) (omega arith)) (omega (arith, l2))
    ∙ peel_more t2 8 z1 t1 r1 (column 1 z1 (lit< tt) (omega arith)) (omega (arith, l1))
    ∙ peel_more (bit_xor t2 t1) 0 z0 t0 low (column 0 z0 (lit< tt) (omega arith)) (omega (arith, l0)))

-- ---- the product, bit by bit

-- what the bits of a number add to a sum, which is doubled before each of them
pub products : ℕ → List Bool → ℕ → ℕ
products p [] q = q
products p (x ∷ xs) q = products p xs (cond x (bit_xor (q * 2) p) (q * 2))

pub products_next : (p : ℕ) (x : Bool) (xs : List Bool) (q r : ℕ) → r ≡ cond x (bit_xor (q * 2) p) (q * 2) → products p xs r ≡ products p (x ∷ xs) q
unfolding products
products_next p x xs q r e = ap (products p xs) e

pub products_end : (p q : ℕ) → products p [] q ≡ q
unfolding products
products_end p q = refl

power_twice : (k : ℕ) → 2 ^ suc k ≡ 2 * 2 ^ k
power_twice k = pow-succ' 2 k

-- a sum stays small
pub sum_doubled : (k q : ℕ) → q < 2 ^ (24 + k) → q * 2 < 2 ^ (24 + suc k)
sum_doubled k q h =
    let e : 24 + suc k ≡ suc (24 + k) = omega arith in
    let t : 2 ^ (24 + suc k) ≡ 2 * 2 ^ (24 + k) = ap (λ j. 2 ^ j) e ∙ power_twice (24 + k) in omega (arith, t)

pub power_rises : (k j : ℕ) → 2 ^ k ≤ 2 ^ (k + j)
power_rises k zero = let e : k + 0 ≡ k = omega arith in omega (arith, ap (λ i. 2 ^ i) e)
power_rises k (suc j) =
    let e : k + suc j ≡ suc (k + j) = omega arith in
    omega (arith, ap (λ i. 2 ^ i) e, power_twice (k + j), power_rises k j)

pub sum_small : (k q : ℕ) → k ≤ 24 → q < 2 ^ (24 + k) → q < 2 ^ 48
sum_small k q h l = let e : 24 + k + (24 - k) ≡ 48 = omega arith in omega (arith, power_rises (24 + k) (24 - k), ap (λ i. 2 ^ i) e)

sum_room : (k q : ℕ) → k < 24 → q < 2 ^ (24 + k) → q < 2 ^ 47
sum_room k q h l = let e : 24 + k + (23 - k) ≡ 47 = omega arith in omega (arith, power_rises (24 + k) (23 - k), ap (λ i. 2 ^ i) e)

pub sum_next : (k q p : ℕ) (x : Bool) → p < 2 ^ 24 → q < 2 ^ (24 + k) → cond x (bit_xor (q * 2) p) (q * 2) < 2 ^ (24 + suc k)
sum_next k q p true h l = xor_lt (24 + suc k) (q * 2) p (sum_doubled k q l) (omega (arith, power_rises 24 (suc k)))
sum_next k q p false h l = sum_doubled k q l

IsSum : ℕ → List Bool → ℕ → Type 0
IsSum n xs q = rest_of q ≡ bits_before n xs

sum_more : (n p q : ℕ) (xs : List Bool) (x : Bool) → IsPower n p → q < 2 ^ 47 → IsSum n xs q → IsSum n (xs ++ x ∷ []) (cond x (bit_xor (q * 2) p) (q * 2))
unfolding IsSum
sum_more n p q xs true h l e =
    rest_sum (q * 2) p h.small ∙ ap (λ z. flip z (rest_of (q * 2))) h.power ∙ ap (flip (after_zeros n 1)) (rest_doubled q l ∙ ap times_x e ∙ sym (before_even n xs)) ∙ sym (before_odd n xs)
sum_more n p q xs false h l e = rest_doubled q l ∙ ap times_x e ∙ sym (before_even n xs)

products_are : (n p : ℕ) (xs ys : List Bool) (q : ℕ) → IsPower n p → length xs + length ys ≡ 24 → q < 2 ^ (24 + length xs) → IsSum n xs q → IsSum n (xs ++ ys) (products p ys q)
unfolding products
products_are n p xs [] q h l b e = subst (λ (zs : List Bool). IsSum n zs q) (sym (append-nil xs)) e
products_are n p xs (y ∷ ys) q h l b e =
    let k : length (xs ++ y ∷ []) ≡ suc (length xs) = omega (arith, length-append xs (y ∷ [])) in
    let r : ℕ = cond y (bit_xor (q * 2) p) (q * 2) in
    let small : r < 2 ^ (24 + length (xs ++ y ∷ [])) = subst (λ (j : ℕ). r < 2 ^ (24 + j)) (sym k) (sum_next (length xs) q p y h.small b) in
    subst (λ (zs : List Bool). IsSum n zs (products p ys r)) (append_assoc xs (y ∷ []) ys)
    (products_are n p (xs ++ y ∷ []) ys r h (omega (arith, k)) small (sum_more n p q xs y h (sum_room (length xs) q (omega arith) b) e))

pub product_is : (n p c : ℕ) → IsPower n p → rest_of (products p (bits_of 24 c) 0) ≡ after_zeros n c
unfolding IsSum
product_is n p c h =
    products_are n p [] (bits_of 24 c) 0 h (omega (arith, length-bits_of 24 c)) (lit< tt) (rest_nothing ∙ sym (before_nothing n)) ∙ before_number n c

-- a step of the loop
bits_next : (w n : ℕ) → bits_of (suc w) n ≡ (n / 2 ^ w % 2 == 1) ∷ bits_of w n
unfolding bits_of
bits_next w n = refl

pub bit_times : (b p : ℕ) → b < 2 → b * p ≤ p
bit_times zero p h = omega arith
bit_times (suc zero) p h = omega arith
bit_times (suc (suc b)) p h = absurd (omega arith)

by_bit : (b y p : ℕ) → b < 2 → bit_xor y (b * p) ≡ cond (b == 1) (bit_xor y p) y
by_bit zero y p h = let e : zero * p ≡ 0 = omega arith in ap (bit_xor y) e ∙ xor_zero_r y
by_bit (suc zero) y p h = let e : suc zero * p ≡ p = omega arith in ap (bit_xor y) e
by_bit (suc (suc b)) y p h = absurd (omega arith)

pub product_step : (left p k q r : ℕ) → k < 24 → p < 2 ^ 24 → q < 2 ^ (24 + k) → r ≡ bit_xor (q * 2 ^ 1 % 2 ^ 64) (left / 2 ^ (23 - k) % 2 * p) → products p (bits_of (24 - k) left) q ≡ products p (bits_of 24 left) 0 → (products p (bits_of (24 - (k + 1)) left) r ≡ products p (bits_of 24 left) 0) × (r < 2 ^ (24 + (k + 1)))
product_step left p k q r h l small e same =
    let x : Bool = left / 2 ^ (23 - k) % 2 == 1 in
    let room : q < 2 ^ 47 = sum_room k q h small in
    let d : q * 2 ^ 1 % 2 ^ 64 ≡ q * 2 = omega arith in
    let value : r ≡ cond x (bit_xor (q * 2) p) (q * 2) = e ∙ ap (λ z. bit_xor z (left / 2 ^ (23 - k) % 2 * p)) d ∙ by_bit (left / 2 ^ (23 - k) % 2) (q * 2) p (omega arith) in
    let now : 24 - k ≡ suc (23 - k) = omega arith in
    let next : 24 - (k + 1) ≡ 23 - k = omega arith in
    let s : suc k ≡ k + 1 = omega arith in (
      ap (λ j. products p (bits_of j left) r) next ∙ products_next p x (bits_of (23 - k) left) q r value
          ∙ ap (λ z. products p z q) (sym (ap (λ j. bits_of j left) now ∙ bits_next (23 - k) left)) ∙ same,
      subst (λ (j : ℕ). r < 2 ^ (24 + j)) s (subst (λ (z : ℕ). z < 2 ^ (24 + suc k)) (sym value) (sum_next k q p x l small)),
    )

bits_none : (n : ℕ) → bits_of 0 n ≡ []
unfolding bits_of
bits_none n = refl

pub product_end : (left p k q n : ℕ) → 24 ≤ k → IsPower n p → products p (bits_of (24 - k) left) q ≡ products p (bits_of 24 left) 0 → rest_of q ≡ after_zeros n left
product_end left p k q n h w e =
    let z : 24 - k ≡ 0 = omega arith in
    ap rest_of (sym (products_end p q) ∙ ap (λ xs. products p xs q) (sym (ap (λ j. bits_of j left) z ∙ bits_none left)) ∙ e) ∙ product_is n p left w
