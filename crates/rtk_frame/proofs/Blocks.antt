-- The checksum of blocks of bytes.
use Rattle.std.proofs.Common.{◌≡◌, ℕ, zero, suc, ◌+◌, ◌-◌, ◌*◌, ◌/◌, ◌%◌, ◌^◌, ◌<◌, ◌≤◌, Bool, true, false, not, cond, List, [], ◌∷◌, ◌++◌, length, get_or, drop, refl, sym, ◌∙◌, ap, subst, nat_lt, lit<, arith, append_assoc, append-nil, length-append, get_or-drop, drop-cons, get_or-append-add, ◌==◌, ◌&&◌}
use Rattle.std.proofs.lemmas.List.{get_or_append_left}
use Rattle.std.proofs.Math.ListN.{drop_of_length-le}
use Rattle.std.specs.Prelude.{bit_xor}
use Rattle.std.specs.Int.Bits.{xor_zero_l}
use Rattle.std.proofs.lemmas.Nat.{xor_of_8, xor_of_32}
use Rattle.std.proofs.lemmas.Bool.Decides.{nat_tests}
use Rattle.rtk_bits.specs.Bits.{bits_of, bits}
use Rattle.rtk_bits.proofs.PublicLaws.{length-bits_of}
use Rattle.rtk_frame.specs.Checksum.{zeros, flip, generator, divide}
use Rattle.rtk_frame.specs.Steps.Remainder.{remainder}
use Rattle.rtk_frame.specs.Steps.Tables.{word_of}
use Rattle.rtk_frame.specs.declared.checksum_tables.TheConstants.{TABLES}
use Rattle.rtk_frame.specs.declared.checksum_far_tables.TheConstants.{FAR_TABLES}
use Rattle.rtk_frame.proofs.Division.{length_zeros, length_flip, flip_flip, flip_bits, flip_halves, flip_none, flip_onto, bits_cat, divide_add, byte_step}
use Rattle.rtk_frame.proofs.ByteTable.{table_entry}
use Rattle.rtk_frame.proofs.Remainder.{next}

-- ---- bits and their number
pub length_bits : (bytes : List ℕ) → length (bits bytes) ≡ 8 * length bytes
unfolding bits
length_bits [] = refl
length_bits (y ∷ ys) = omega (arith, length-append (bits_of 8 y) (bits ys), length-bits_of 8 y, length_bits ys)

pub bits_append : (a b : List ℕ) → bits (a ++ b) ≡ bits a ++ bits b
unfolding bits
bits_append [] b = refl
bits_append (y ∷ a) b = ap (λ z. bits_of 8 y ++ z) (bits_append a b) ∙ sym (append_assoc (bits_of 8 y) (bits a) (bits b))

-- ---- the division of a sum is the sum of the divisions
swap_bit : (x y z : Bool) → cond x (not (cond y (not z) z)) (cond y (not z) z) ≡ cond y (not (cond x (not z) z)) (cond x (not z) z)
swap_bit true true z = refl
swap_bit true false z = refl
swap_bit false true z = refl
swap_bit false false z = refl

flip_swap : (a b c : List Bool) → flip a (flip b c) ≡ flip b (flip a c)
flip_swap [] b c = refl
flip_swap (x ∷ a) [] c = refl
flip_swap (x ∷ a) (y ∷ b) [] = refl
flip_swap (x ∷ a) (y ∷ b) (z ∷ c) = rw (swap_bit x y z, flip_swap a b c) refl

twice_bit : (x z : Bool) → cond x (not (cond x (not z) z)) (cond x (not z) z) ≡ z
twice_bit true true = refl
twice_bit true false = refl
twice_bit false z = refl

pub flip_twice : (a c : List Bool) → flip a (flip a c) ≡ c
flip_twice [] c = refl
flip_twice (x ∷ a) [] = refl
flip_twice (x ∷ a) (z ∷ c) = rw (twice_bit x z, flip_twice a c) refl

pub generator_length : (n : ℕ) (a : List Bool) → suc n + 24 ≤ suc (length a) → length generator ≤ length a
generator_length n a h = omega (arith, length-bits_of 24 0x864CFB)

pub divide_sum : (n : ℕ) (a b : List Bool) → length a ≡ length b → n + 24 ≤ length a → divide n (flip a b) ≡ flip (divide n a) (divide n b)
unfolding divide
divide_sum zero a b h l = refl
divide_sum (suc n) [] b h l = absurd (omega arith)
divide_sum (suc n) (x ∷ a) [] h l = absurd (omega arith)
divide_sum (suc n) (true ∷ a) (true ∷ b) h l =
    let e : flip (flip generator a) (flip generator b) ≡ flip a b = flip_flip generator a (flip generator b) (generator_length n a l) ∙ ap (flip generator) (flip_swap a generator b) ∙ flip_twice generator (flip a b) in
    sym (ap (divide n) e) ∙ divide_sum n (flip generator a) (flip generator b) (omega (arith, length_flip generator a, length_flip generator b)) (omega (arith, length_flip generator a))
divide_sum (suc n) (true ∷ a) (false ∷ b) h l =
    sym (ap (divide n) (flip_flip generator a b (generator_length n a l))) ∙ divide_sum n (flip generator a) b (omega (arith, length_flip generator a)) (omega (arith, length_flip generator a))
divide_sum (suc n) (false ∷ a) (true ∷ b) h l =
    ap (divide n) (flip_swap generator a b) ∙ divide_sum n a (flip generator b) (omega (arith, length_flip generator b)) (omega arith)
divide_sum (suc n) (false ∷ a) (false ∷ b) h l = divide_sum n a b (omega arith) (omega arith)

pub length_divide : (n : ℕ) (a : List Bool) → length (divide n a) ≡ length a - n
unfolding divide
length_divide zero a = omega arith
length_divide (suc n) [] = omega arith
length_divide (suc n) (true ∷ a) = omega (arith, length_divide n (flip generator a), length_flip generator a)
length_divide (suc n) (false ∷ a) = omega (arith, length_divide n a)

-- flips past the end are lost
pub flip_nothing : (a : List Bool) → flip a [] ≡ []
flip_nothing [] = refl
flip_nothing (x ∷ a) = refl

flip_cut : (a : List Bool) (n : ℕ) (b : List Bool) → length b ≤ n → flip (flip a (zeros n)) b ≡ flip a b
flip_cut [] n b h = flip_none n b
flip_cut (x ∷ a) n [] h = flip_nothing (flip (x ∷ a) (zeros n))
flip_cut (x ∷ a) zero (y ∷ b) h = absurd (omega arith)
flip_cut (true ∷ a) (suc n) (y ∷ b) h = ap (λ z. not y ∷ z) (flip_cut a n b (omega arith))
flip_cut (false ∷ a) (suc n) (y ∷ b) h = ap (λ z. y ∷ z) (flip_cut a n b (omega arith))

-- ---- a table for each place

-- z followed by zeros
abbrev pub IsColumn : ℕ → ℕ → ℕ → Type 0
IsColumn m z t = (xs : List Bool) → divide (8 + m) (bits_of 8 z ++ (zeros m ++ xs)) ≡ flip (bits_of 32 t) xs

pub zeros_add : (m n : ℕ) → zeros (m + n) ≡ zeros m ++ zeros n
zeros_add zero n = let e : 0 + n ≡ n = omega arith in ap zeros e
zeros_add (suc m) n = let e : suc m + n ≡ suc (m + n) = omega arith in ap zeros e ∙ ap (λ z. false ∷ z) (zeros_add m n)

divide_zeros : (rest : List Bool) → divide 8 (zeros 8 ++ rest) ≡ rest
unfolding divide
divide_zeros rest = refl

-- a byte, and what follows it
pub peel : (m z t : ℕ) (rest : List Bool) → IsColumn m z t → m + 24 ≤ length rest → divide (8 + m) (bits_of 8 z ++ rest) ≡ flip (bits_of 32 t) (divide m rest)
peel m z t rest col l =
    let k : ℕ = length rest - m in
    let n : length rest ≡ m + k = omega arith in
    let da : length (bits_of 8 z ++ zeros (length rest)) ≡ 8 + length rest = omega (arith, length-append (bits_of 8 z) (zeros (length rest)), length-bits_of 8 z, length_zeros (length rest)) in
    let db : length (zeros 8 ++ rest) ≡ 8 + length rest = omega (arith, length-append (zeros 8) rest) in
    ap (divide (8 + m)) (sym (ap (λ j. flip (bits_of 8 z ++ zeros (length rest)) (zeros j ++ rest)) (sym (length-bits_of 8 z)) ∙ flip_onto (bits_of 8 z) (length rest) rest))
    ∙ divide_sum (8 + m) (bits_of 8 z ++ zeros (length rest)) (zeros 8 ++ rest) (da ∙ sym db) (omega (arith, da))
    ∙ ap (λ w. flip (divide (8 + m) (bits_of 8 z ++ zeros (length rest))) w) (divide_add 8 m (zeros 8 ++ rest) ∙ ap (divide m) (divide_zeros rest))
    ∙ ap (λ w. flip w (divide m rest)) (ap (λ j. divide (8 + m) (bits_of 8 z ++ j)) (ap zeros n ∙ zeros_add m k) ∙ col (zeros k))
    ∙ flip_cut (bits_of 32 t) k (divide m rest) (omega (arith, length_divide m rest))

state_zero : bits_of 32 0 ≡ zeros 32
unfolding bits_of
state_zero = refl

column_first : (z : ℕ) → z < 256 → IsColumn 0 z (word_of 0 z)
column_first z h xs =
    ap (divide 8) (sym (flip_none 32 (bits_of 8 z ++ xs)) ∙ ap (λ w. flip w (bits_of 8 z ++ xs)) (sym state_zero))
    ∙ byte_step 0 z (word_of 0 z) xs (lit< tt) (table_entry z h)

byte_zeros : bits_of 8 0 ≡ zeros 8
unfolding bits_of
byte_zeros = refl

column_next : (m z t : ℕ) → t < 2 ^ 32 → IsColumn m z t → IsColumn (m + 8) z (next t 0)
column_next m z t h col xs =
    let n : 8 + (m + 8) ≡ (8 + m) + 8 = omega arith in
    ap (λ j. divide j (bits_of 8 z ++ (zeros (m + 8) ++ xs))) n
    ∙ ap (λ w. divide ((8 + m) + 8) (bits_of 8 z ++ w)) (ap (λ w. w ++ xs) (zeros_add m 8) ∙ append_assoc (zeros m) (zeros 8) xs)
    ∙ divide_add (8 + m) 8 (bits_of 8 z ++ (zeros m ++ (zeros 8 ++ xs)))
    ∙ ap (divide 8) (col (zeros 8 ++ xs) ∙ ap (λ w. flip (bits_of 32 t) (w ++ xs)) (sym byte_zeros))
    ∙ byte_step t 0 (word_of 0 (bit_xor (t / 2 ^ 24) 0)) xs h (table_entry (bit_xor (t / 2 ^ 24) 0) (xor_of_8 (t / 2 ^ 24) 0 (omega arith) (lit< tt)))

-- each word of us is a word of ts, with one byte of zeros more
chained : List ℕ → List ℕ → Bool
chained ts [] = true
chained [] (u ∷ us) = false
chained (t ∷ ts) (u ∷ us) = nat_lt t (2 ^ 32) && ((u == next t 0) && chained ts us)

pub three : (a b c : Bool) → (a && (b && c)) ≡ true → (a ≡ true) × (b ≡ true) × (c ≡ true)
three true true c h = (refl, refl, h)
three true false c h = absurd (cc)
three false b c h = absurd (cc)

chained_at : (ts us : List ℕ) (i : ℕ) → chained ts us ≡ true → i < length us → (get_or ts i 0 < 2 ^ 32) × (get_or us i 0 ≡ next (get_or ts i 0) 0)
unfolding chained
chained_at ts [] i h l = absurd (omega arith)
chained_at [] (u ∷ us) i h l = absurd (cc)
chained_at (t ∷ ts) (u ∷ us) zero h l = let p = three (nat_lt t (2 ^ 32)) (u == next t 0) (chained ts us) h in (grind (arith, nat_tests, p.0), grind (arith, nat_tests, p.1))
chained_at (t ∷ ts) (u ∷ us) (suc i) h l = let p = three (nat_lt t (2 ^ 32)) (u == next t 0) (chained ts us) h in chained_at ts us i p.2 (omega arith)

length_near : length TABLES ≡ 2048
length_near = refl

pub word_near : (k z : ℕ) → 256 * k + z < 2048 → get_or TABLES (256 * k + z) 0 ≡ word_of k z
unfolding word_of
word_near k z h = sym (get_or_append_left TABLES FAR_TABLES 0 (256 * k + z) (omega (arith, length_near)))

pub word_far : (k z : ℕ) → 2048 ≤ 256 * k + z → get_or FAR_TABLES (256 * k + z - 2048) 0 ≡ word_of k z
unfolding word_of
word_far k z h =
    let e : length TABLES + (256 * k + z - 2048) ≡ 256 * k + z = omega (arith, length_near) in
    sym (get_or-append-add TABLES FAR_TABLES (256 * k + z - 2048) 0) ∙ ap (λ i. get_or (TABLES ++ FAR_TABLES) i 0) e

-- all tables, and all but the first
all : List ℕ
all = TABLES ++ FAR_TABLES

others : List ℕ
others = drop 256 all

test : chained all others ≡ true
unfolding chained all others word_of
test = refl

length_others : length others ≡ 3840
unfolding all others
length_others = refl

word_is : (k z : ℕ) → word_of k z ≡ get_or all (256 * k + z) 0
unfolding all word_of
word_is k z = refl

other_is : (i : ℕ) → get_or others i 0 ≡ get_or all (256 + i) 0
unfolding others
other_is i = get_or-drop 256 all i 0

-- a word of a table is a number of 32 bits, and the next table has it with one byte of zeros more
word_next : (k z : ℕ) → k < 15 → z < 256 → (word_of k z < 2 ^ 32) × (word_of (suc k) z ≡ next (word_of k z) 0)
word_next k z hk h =
    let p = chained_at all others (256 * k + z) test (omega (arith, length_others)) in
    let e : 256 + (256 * k + z) ≡ 256 * suc k + z = omega arith in
    let step : word_of (suc k) z ≡ next (get_or all (256 * k + z) 0) 0 = word_is (suc k) z ∙ ap (λ j. get_or all j 0) (sym e) ∙ sym (other_is (256 * k + z)) ∙ p.1 in
    (subst (λ t. t < 2 ^ 32) (sym (word_is k z)) p.0, step ∙ ap (λ t. next t 0) (sym (word_is k z)))

pub word_lt : (k z : ℕ) → k < 15 → z < 256 → word_of k z < 2 ^ 32
word_lt k z hk h = (word_next k z hk h).0

pub column : (k z : ℕ) → k < 16 → z < 256 → IsColumn (8 * k) z (word_of k z)
column zero z hk h = column_first z h
column (suc k) z hk h =
    let p = word_next k z (omega arith) h in
    let e : 8 * k + 8 ≡ 8 * suc k = omega arith in
    subst (λ t. IsColumn (8 * suc k) z t) (sym p.1) (subst (λ m. IsColumn m z (next (word_of k z) 0)) e (column_next (8 * k) z (word_of k z) p.0 (column k z (omega arith) h)))

-- ---- blocks of bytes
merge : (a b : ℕ) (xs : List Bool) → flip (bits_of 32 a) (flip (bits_of 32 b) xs) ≡ flip (bits_of 32 (bit_xor a b)) xs
merge a b xs = sym (flip_flip (bits_of 32 a) (bits_of 32 b) xs (omega (arith, length-bits_of 32 a, length-bits_of 32 b))) ∙ ap (λ w. flip w xs) (flip_bits 32 a b)

pub peel_more : (u m z t : ℕ) (rest : List Bool) → IsColumn m z t → m + 24 ≤ length rest → flip (bits_of 32 u) (divide (8 + m) (bits_of 8 z ++ rest)) ≡ flip (bits_of 32 (bit_xor u t)) (divide m rest)
peel_more u m z t rest col l = ap (flip (bits_of 32 u)) (peel m z t rest col l) ∙ merge u t (divide m rest)

-- the words of the bytes, summed
abbrev pub words : ℕ → List ℕ → ℕ
words u [] = u
words u (z ∷ zs) = words (bit_xor u (word_of (length zs) z)) zs

peel_all : (u : ℕ) (zs : List ℕ) (xs : List Bool) → length zs ≤ 16 → ((i : ℕ) → get_or zs i 0 < 256) → 24 ≤ length xs → flip (bits_of 32 u) (divide (8 * length zs) (bits zs ++ xs)) ≡ flip (bits_of 32 (words u zs)) xs
unfolding bits divide
peel_all u [] xs n h l = refl
peel_all u (z ∷ zs) xs n h l =
    let m : ℕ = 8 * length zs in
    let e : 8 * length (z ∷ zs) ≡ 8 + m = omega arith in
    ap (λ k. flip (bits_of 32 u) (divide k ((bits_of 8 z ++ bits zs) ++ xs))) e
    ∙ ap (λ w. flip (bits_of 32 u) (divide (8 + m) w)) (append_assoc (bits_of 8 z) (bits zs) xs)
    ∙ peel_more u m z (word_of (length zs) z) (bits zs ++ xs) (column (length zs) z (omega arith) (h 0)) (omega (arith, length-append (bits zs) xs, length_bits zs))
    ∙ peel_all (bit_xor u (word_of (length zs) z)) zs xs (omega arith) (λ i. h (suc i)) l

-- a word of 32 bits, by its bytes
quad : (w : ℕ) (tail : List ℕ) (xs : List Bool) → w < 2 ^ 32 → bits_of 32 w ++ (bits tail ++ xs) ≡ bits (w / 2 ^ 24 ∷ w / 2 ^ 16 % 256 ∷ w / 2 ^ 8 % 256 ∷ w % 256 ∷ tail) ++ xs
unfolding bits
quad w tail xs h =
    let w0 : ℕ = w / 2 ^ 24 in
    let w1 : ℕ = w / 2 ^ 16 % 256 in
    let w2 : ℕ = w / 2 ^ 8 % 256 in
    let w3 : ℕ = w % 256 in
    let e1 : w ≡ w0 * 2 ^ 24 + w % 2 ^ 24 = omega arith in
    let e2 : w % 2 ^ 24 ≡ w1 * 2 ^ 16 + w % 2 ^ 16 = omega arith in
    let e3 : w % 2 ^ 16 ≡ w2 * 2 ^ 8 + w3 = omega arith in
    let parts : bits_of 32 w ≡ bits_of 8 w0 ++ (bits_of 8 w1 ++ (bits_of 8 w2 ++ bits_of 8 w3)) =
    ap (bits_of 32) e1 ∙ bits_cat 8 24 w0 (w % 2 ^ 24) (omega arith)
    ∙ ap (λ v. bits_of 8 w0 ++ v) (ap (bits_of 24) e2 ∙ bits_cat 8 16 w1 (w % 2 ^ 16) (omega arith)
    ∙ ap (λ v. bits_of 8 w1 ++ v) (ap (bits_of 16) e3 ∙ bits_cat 8 8 w2 w3 (omega arith))) in
    let ys : List Bool = bits tail ++ xs in
    let right : (bits_of 8 w0 ++ (bits_of 8 w1 ++ (bits_of 8 w2 ++ (bits_of 8 w3 ++ bits tail)))) ++ xs ≡ bits_of 8 w0 ++ (bits_of 8 w1 ++ (bits_of 8 w2 ++ (bits_of 8 w3 ++ ys))) =
    append_assoc (bits_of 8 w0) (bits_of 8 w1 ++ (bits_of 8 w2 ++ (bits_of 8 w3 ++ bits tail))) xs
    ∙ ap (λ v. bits_of 8 w0 ++ v) (append_assoc (bits_of 8 w1) (bits_of 8 w2 ++ (bits_of 8 w3 ++ bits tail)) xs
    ∙ ap (λ v. bits_of 8 w1 ++ v) (append_assoc (bits_of 8 w2) (bits_of 8 w3 ++ bits tail) xs
    ∙ ap (λ v. bits_of 8 w2 ++ v) (append_assoc (bits_of 8 w3) (bits tail) xs))) in
    let left : (bits_of 8 w0 ++ (bits_of 8 w1 ++ (bits_of 8 w2 ++ bits_of 8 w3))) ++ ys ≡ bits_of 8 w0 ++ (bits_of 8 w1 ++ (bits_of 8 w2 ++ (bits_of 8 w3 ++ ys))) =
    append_assoc (bits_of 8 w0) (bits_of 8 w1 ++ (bits_of 8 w2 ++ bits_of 8 w3)) ys
    ∙ ap (λ v. bits_of 8 w0 ++ v) (append_assoc (bits_of 8 w1) (bits_of 8 w2 ++ bits_of 8 w3) ys
    ∙ ap (λ v. bits_of 8 w1 ++ v) (append_assoc (bits_of 8 w2) (bits_of 8 w3) ys)) in
    ap (λ v. v ++ ys) parts ∙ left ∙ sym right

-- four bytes as a number, the most significant one first
abbrev pub four_bytes : ℕ → ℕ → ℕ → ℕ → ℕ
four_bytes a b c d = a * 2 ^ 24 + b * 2 ^ 16 + c * 2 ^ 8 + d

heads : (s a b c d : ℕ) (tail : List ℕ) (xs : List Bool) → a < 256 → b < 256 → c < 256 → d < 256 → flip (bits_of 32 s) (bits (a ∷ b ∷ c ∷ d ∷ tail) ++ xs) ≡ bits_of 32 (bit_xor s (four_bytes a b c d)) ++ (bits tail ++ xs)
heads s a b c d tail xs ha hb hc hd =
    let n : ℕ = four_bytes a b c d in
    let ys : List Bool = bits tail ++ xs in
    let a1 : n / 2 ^ 24 ≡ a = omega arith in
    let b1 : n / 2 ^ 16 % 256 ≡ b = omega arith in
    let c1 : n / 2 ^ 8 % 256 ≡ c = omega arith in
    let d1 : n % 256 ≡ d = omega arith in
    let spelled : bits (n / 2 ^ 24 ∷ n / 2 ^ 16 % 256 ∷ n / 2 ^ 8 % 256 ∷ n % 256 ∷ tail) ++ xs ≡ bits (a ∷ b ∷ c ∷ d ∷ tail) ++ xs =
    (λ j. bits (a1 j ∷ b1 j ∷ c1 j ∷ d1 j ∷ tail) ++ xs) in
    let whole : bits_of 32 s ≡ bits_of 32 s ++ [] = sym (append-nil (bits_of 32 s)) in
    ap (flip (bits_of 32 s)) (sym spelled ∙ sym (quad n tail xs (omega arith)))
    ∙ ap (λ v. flip v (bits_of 32 n ++ ys)) whole
    ∙ flip_halves (bits_of 32 s) [] (bits_of 32 n) ys (length-bits_of 32 s ∙ sym (length-bits_of 32 n))
    ∙ ap (λ v. v ++ ys) (flip_bits 32 s n)

four_small : (a b c d : ℕ) (tail : List ℕ) → a < 256 → b < 256 → c < 256 → d < 256 → ((i : ℕ) → get_or tail i 0 < 256) → (i : ℕ) → get_or (a ∷ b ∷ c ∷ d ∷ tail) i 0 < 256
four_small a b c d tail ha hb hc hd h zero = ha
four_small a b c d tail ha hb hc hd h (suc zero) = hb
four_small a b c d tail ha hb hc hd h (suc (suc zero)) = hc
four_small a b c d tail ha hb hc hd h (suc (suc (suc zero))) = hd
four_small a b c d tail ha hb hc hd h (suc (suc (suc (suc i)))) = h i

-- the state after a block of bytes, whose first four are summed with the state before it
pub block : (s a b c d : ℕ) (tail ys : List ℕ) → s < 2 ^ 32 → length tail ≤ 12 → a < 256 → b < 256 → c < 256 → d < 256 → ((i : ℕ) → get_or tail i 0 < 256) → (w : ℕ) → w ≡ bit_xor s (four_bytes a b c d) → remainder s ((a ∷ b ∷ c ∷ d ∷ tail) ++ ys) ≡ remainder (words (word_of (3 + length tail) (w / 2 ^ 24)) (w / 2 ^ 16 % 256 ∷ w / 2 ^ 8 % 256 ∷ w % 256 ∷ tail)) ys
unfolding remainder
block s a b c d tail ys hs n ha hb hc hd ht w e =
    let bytes : List ℕ = a ∷ b ∷ c ∷ d ∷ tail in
    let zs : List ℕ = w / 2 ^ 24 ∷ w / 2 ^ 16 % 256 ∷ w / 2 ^ 8 % 256 ∷ w % 256 ∷ tail in
    let xs : List Bool = bits ys ++ zeros 24 in
    let m : ℕ = 8 * length bytes in
    let k : 8 * length (bytes ++ ys) ≡ m + 8 * length ys = omega (arith, length-append bytes ys) in
    let l : 24 ≤ length xs = omega (arith, length-append (bits ys) (zeros 24), length_zeros 24) in
    let wl : w < 2 ^ 32 = subst (λ (v : ℕ). v < 2 ^ 32) (sym e) (xor_of_32 s (four_bytes a b c d) hs (omega arith)) in
    let three_more : suc (suc (suc (length tail))) ≡ 3 + length tail = omega arith in
    let small : (i : ℕ) → get_or zs i 0 < 256 = four_small (w / 2 ^ 24) (w / 2 ^ 16 % 256) (w / 2 ^ 8 % 256) (w % 256) tail (omega arith) (omega arith) (omega arith) (omega arith) ht in
    ap (λ j. divide j (flip (bits_of 32 s) (bits (bytes ++ ys) ++ zeros 24))) k
    ∙ divide_add m (8 * length ys) (flip (bits_of 32 s) (bits (bytes ++ ys) ++ zeros 24))
    ∙ ap (λ v. divide (8 * length ys) (divide m (flip (bits_of 32 s) v))) (ap (λ v. v ++ zeros 24) (bits_append bytes ys) ∙ append_assoc (bits bytes) (bits ys) (zeros 24))
    ∙ ap (λ v. divide (8 * length ys) (divide m v)) (heads s a b c d tail xs ha hb hc hd ∙ ap (λ (v : ℕ). bits_of 32 v ++ (bits tail ++ xs)) (sym e) ∙ quad w tail xs wl)
    ∙ ap (divide (8 * length ys)) (sym (ap (λ v. flip v (divide m (bits zs ++ xs))) state_zero ∙ flip_none 32 (divide m (bits zs ++ xs))) ∙ peel_all 0 zs xs (omega arith) small l)
    ∙ ap (λ (u : ℕ). divide (8 * length ys) (flip (bits_of 32 (words u (w / 2 ^ 16 % 256 ∷ w / 2 ^ 8 % 256 ∷ w % 256 ∷ tail))) xs)) (xor_zero_l (word_of (suc (suc (suc (length tail)))) (w / 2 ^ 24)) ∙ ap (λ n. word_of n (w / 2 ^ 24)) three_more)

-- a list, by its items
abbrev pub items : ℕ → ℕ → List ℕ → List ℕ
items zero k b = []
items (suc n) k b = get_or b k 0 ∷ items n (suc k) b

spelled_from : (n k : ℕ) (b : List ℕ) → length b ≡ k + n → drop k b ≡ items n k b
spelled_from zero k b h = drop_of_length-le b (omega arith)
spelled_from (suc n) k b h = drop-cons b k 0 (omega arith) ∙ ap (λ z. get_or b k 0 ∷ z) (spelled_from n (suc k) b (omega arith))

pub spelled : (n : ℕ) (b : List ℕ) → length b ≡ n → b ≡ items n 0 b
spelled n b h = spelled_from n 0 b (omega arith)

pub items_small : (n k : ℕ) (b : List ℕ) → ((i : ℕ) → get_or b i 0 < 256) → (i : ℕ) → get_or (items n k b) i 0 < 256
items_small zero k b h i = omega arith
items_small (suc n) k b h zero = h k
items_small (suc n) k b h (suc i) = items_small n (suc k) b h i
