-- The checksum byte by byte.
use Rattle.std.proofs.Common.{◌≡◌, ℕ, zero, suc, ◌+◌, ◌*◌, ◌/◌, ◌%◌, ◌^◌, ◌<◌, Bool, List, [], ◌∷◌, ◌++◌, length, refl, sym, ◌∙◌, ap, arith, append_assoc}
use Rattle.std.specs.Prelude.{bit_xor}
use Rattle.std.proofs.lemmas.Nat.{xor_of_8}
use Rattle.rtk_bits.specs.Bits.{bits_of, bits, unsigned}
use Rattle.rtk_bits.proofs.PublicLaws.{length-bits_of, unsigned-bits_of}
use Rattle.rtk_frame.specs.Checksum.{zeros, flip, divide, crc}
use Rattle.rtk_frame.specs.Steps.Remainder.{remainder}
use Rattle.rtk_frame.specs.Steps.Tables.{word_of}
use Rattle.rtk_frame.proofs.Division.{flip_none, bits_cat, divide_add, byte_step, flip_zero}
use Rattle.rtk_frame.proofs.ByteTable.{table_entry}

-- the state after a byte
abbrev pub next : ℕ → ℕ → ℕ
next s y = bit_xor (s * 2 ^ 8 % 2 ^ 32) (word_of 0 (bit_xor (s / 2 ^ 24) y))

pub remainder_next : (s y : ℕ) (ys : List ℕ) → s < 2 ^ 32 → y < 256 → remainder s (y ∷ ys) ≡ remainder (next s y) ys
unfolding remainder bits
remainder_next s y ys h b =
    let n : 8 * length (y ∷ ys) ≡ 8 + 8 * length ys = omega arith in
    ap (λ k. divide k (flip (bits_of 32 s) ((bits_of 8 y ++ bits ys) ++ zeros 24))) n
    ∙ divide_add 8 (8 * length ys) (flip (bits_of 32 s) ((bits_of 8 y ++ bits ys) ++ zeros 24))
    ∙ ap (λ z. divide (8 * length ys) (divide 8 (flip (bits_of 32 s) z))) (append_assoc (bits_of 8 y) (bits ys) (zeros 24))
    ∙ ap (divide (8 * length ys)) (byte_step s y (word_of 0 (bit_xor (s / 2 ^ 24) y)) (bits ys ++ zeros 24) h (table_entry (bit_xor (s / 2 ^ 24) y) (xor_of_8 (s / 2 ^ 24) y (omega arith) b)))

-- at the end
pub flip_end : (a b : List Bool) (n : ℕ) → length a ≡ n → flip (a ++ b) (zeros n) ≡ a
flip_end [] [] zero h = refl
flip_end [] (y ∷ b) zero h = refl
flip_end [] b (suc n) h = absurd (omega arith)
flip_end (x ∷ a) b zero h = absurd (omega arith)
flip_end (x ∷ a) b (suc n) h = rw (flip_zero x, flip_end a b n (omega arith)) refl

pub remainder_end : (s : ℕ) → s < 2 ^ 32 → remainder s [] ≡ bits_of 24 (s / 2 ^ 8)
unfolding remainder divide bits
remainder_end s h =
    let e : s ≡ s / 2 ^ 8 * 2 ^ 8 + s % 2 ^ 8 = omega arith in
    let parts : bits_of 32 s ≡ bits_of 24 (s / 2 ^ 8) ++ bits_of 8 (s % 2 ^ 8) = ap (bits_of 32) e ∙ bits_cat 24 8 (s / 2 ^ 8) (s % 2 ^ 8) (omega arith) in
    ap (λ z. flip z (zeros 24)) parts ∙ flip_end (bits_of 24 (s / 2 ^ 8)) (bits_of 8 (s % 2 ^ 8)) 24 (length-bits_of 24 (s / 2 ^ 8))

-- at the start
pub crc_remainder : (bytes : List ℕ) → crc bytes ≡ unsigned (remainder 0 bytes)
unfolding remainder crc bits_of
crc_remainder bytes = ap (λ z. unsigned (divide (8 * length bytes) z)) (sym (flip_none 32 (bits bytes ++ zeros 24)))

pub crc_end : (s : ℕ) (bytes : List ℕ) → s < 2 ^ 32 → remainder s [] ≡ remainder 0 bytes → s / 2 ^ 8 ≡ crc bytes
crc_end s bytes h e =
    let small : s / 2 ^ 8 % 2 ^ 24 ≡ s / 2 ^ 8 = omega arith in
    sym (crc_remainder bytes ∙ ap unsigned (sym e ∙ remainder_end s h) ∙ unsigned-bits_of 24 (s / 2 ^ 8) ∙ small)
