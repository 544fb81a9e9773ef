-- Bits of a machine word: its mask, the bytes that it is loaded from, and the bytes that it is
-- stored as.
use Rattle.std.proofs.Common.{◌≡◌, ℕ, zero, suc, ◌+◌, ◌-◌, ◌*◌, ◌/◌, ◌%◌, ◌^◌, ◌<◌, ◌≤◌, List, [], ◌∷◌, ◌++◌, length, get_or, take, drop, refl, sym, ap, pow_mono, bit_and, bit_or, ◌∙◌, arith}
use Rattle.std.specs.Int.{w64, from_be_bytes, to_be_bytes, byte_at, bytes_high_first}
use Rattle.std.proofs.lemmas.List.{length-take, take_more}
use Rattle.std.proofs.lemmas.Nat.{pow-add, and_mask, or_shifted}
use Rattle.std.proofs.lemmas.Nat.Bits.{ones_shr}
use Rattle.std.proofs.Math.Nat.{suc-add, pow-suc, lt_of_lt_of_le}
use Rattle.rtk_bits.specs.Bits.{bits_of, bits, unsigned}
use Rattle.rtk_bits.proofs.BitsLemmas.{length-bits, bits-append, bits_of-split, bits_of-mod, bits_of-zero_width}
use Rattle.rtk_bits.proofs.Numbers.{unsigned_lt, unsigned-append, unsigned-bits_of}

-- ---- the mask `u64::MAX >> (64 - w)`

pub and_low_mask : (n w : ℕ) → w ≤ 64 → bit_and n ((2 ^ 64 - 1) / 2 ^ (64 - w)) ≡ n % 2 ^ w
and_low_mask n w h =
    let k : 64 - (64 - w) ≡ w = omega arith in
    rw (ones_shr 64 (64 - w) (omega arith), k) (and_mask n w)

-- ---- a word from bytes

abbrev pub IsBytes : List ℕ → Type 0
IsBytes bs = (i : ℕ) → get_or bs i 0 < 256

unsigned-bits-cons : (b : ℕ) (bs : List ℕ) → b < 256 → unsigned (bits (b ∷ bs)) ≡ b * 2 ^ (8 * length bs) + unsigned (bits bs)
unfolding bits
unsigned-bits-cons b bs h = rw (unsigned-append (bits_of 8 b) (bits bs), unsigned-bits_of 8 b, length-bits bs) (let e : b % 256 ≡ b = omega arith in rw e refl)

unsigned-bits-push : (bs : List ℕ) (b : ℕ) → b < 256 → unsigned (bits (bs ++ b ∷ [])) ≡ unsigned (bits bs) * 256 + b
unfolding bits unsigned
unsigned-bits-push bs b h = rw (bits-append bs (b ∷ []), unsigned-append (bits bs) (bits (b ∷ [])), length-bits (b ∷ []), unsigned-bits-cons b [] h) (omega arith)

-- what `u64::from_be_bytes` makes of the first eight bytes
pub word_8 : (bs : List ℕ) → 8 ≤ length bs → IsBytes bs → from_be_bytes w64 (take 8 bs) ≡ unsigned (bits (take 8 bs))
unfolding bits unsigned
word_8 (a ∷ b ∷ c ∷ d ∷ e ∷ f ∷ g ∷ h ∷ bs) len fits =
    rw (
      unsigned-bits-cons a (b ∷ c ∷ d ∷ e ∷ f ∷ g ∷ h ∷ []) (fits 0),
      unsigned-bits-cons b (c ∷ d ∷ e ∷ f ∷ g ∷ h ∷ []) (fits 1),
      unsigned-bits-cons c (d ∷ e ∷ f ∷ g ∷ h ∷ []) (fits 2),
      unsigned-bits-cons d (e ∷ f ∷ g ∷ h ∷ []) (fits 3),
      unsigned-bits-cons e (f ∷ g ∷ h ∷ []) (fits 4),
      unsigned-bits-cons f (g ∷ h ∷ []) (fits 5),
      unsigned-bits-cons g (h ∷ []) (fits 6),
      unsigned-bits-cons h [] (fits 7),
    ) (omega arith)
word_8 bs len fits = absurd (omega arith)

-- a step of the fold over bytes: one byte more after the first i
pub push_byte : (bs : List ℕ) (i b : ℕ) → IsBytes bs → i < length bs → length bs ≤ 16 → bit_or (unsigned (bits (take i bs)) * 256 % 2 ^ 128) (get_or bs i 0) ≡ unsigned (bits (take (i + 1) bs))
push_byte bs i b fits lt most =
    let small : unsigned (bits (take i bs)) < 2 ^ 120 = lt_of_lt_of_le (unsigned_lt (bits (take i bs))) (let e : length (bits (take i bs)) ≤ 120 = omega (arith, length-bits (take i bs), length-take i bs) in pow_mono e) in
    let whole : unsigned (bits (take i bs)) * 256 % 2 ^ 128 ≡ unsigned (bits (take i bs)) * 256 = omega arith in
    rw (whole, or_shifted (unsigned (bits (take i bs))) 8 (get_or bs i 0) (fits i), take_more bs i 0 lt) (sym (unsigned-bits-push (take i bs) (get_or bs i 0) (fits i)))

-- ---- a word as bytes

byte_pow : (k : ℕ) → 2 ^ (8 * k) ≡ 256 ^ k
byte_pow zero = refl
byte_pow (suc k) =
    let e : 8 * suc k ≡ 8 * k + 8 = omega arith in
    rw (e, pow-add 2 (8 * k) 8, byte_pow k) (sym (pow-suc 256 k))

byte_at-bits : (k n : ℕ) → bits_of 8 (byte_at k n) ≡ bits_of 8 (n / 2 ^ (8 * k))
byte_at-bits zero n = let e : n / 2 ^ (8 * 0) ≡ n = omega arith in rw e (bits_of-mod 8 n)
byte_at-bits (suc k) n = let e : 2 ^ (8 * suc k) ≡ 256 ^ suc k = byte_pow (suc k) in rw e (bits_of-mod 8 (n / 256 ^ suc k))

pub bits-bytes_high_first : (k n : ℕ) → bits (bytes_high_first k n) ≡ bits_of (8 * k) n
unfolding bits
bits-bytes_high_first zero n = sym (bits_of-zero_width n)
bits-bytes_high_first (suc k) n =
    let e : 8 * suc k ≡ 8 + 8 * k = omega arith in
    rw (e, bits_of-split 8 (8 * k) n, byte_at-bits k n, bits-bytes_high_first k n) refl

drop-bytes_high_first : (j k n : ℕ) → drop j (bytes_high_first (j + k) n) ≡ bytes_high_first k n
drop-bytes_high_first zero k n = ap (λ (m : ℕ). bytes_high_first m n) (omega arith)
drop-bytes_high_first (suc j) k n = rw (suc-add j k) (drop-bytes_high_first j k n)

-- the last k of the eight bytes that `u64::to_be_bytes` makes
pub low_bytes : (k n : ℕ) → k ≤ 8 → drop (8 - k) (to_be_bytes w64 n) ≡ bytes_high_first k n
low_bytes k n h =
    let e : (8 - k) + k ≡ 8 = omega arith in
    ap (λ (m : ℕ). drop (8 - k) (bytes_high_first m n)) (sym e) ∙ drop-bytes_high_first (8 - k) k n
