-- A field of a machine word: shifted down and masked.
use Rattle.std.proofs.Common.{◌≡◌, ℕ, ◌+◌, ◌-◌, ◌/◌, ◌%◌, ◌^◌, ◌≤◌, List, Bool, ◌++◌, sym, ap, subst, bit_and, ◌∙◌, arith}
use Rattle.std.proofs.lemmas.Nat.{and_mask, pow_pos}
use Rattle.std.proofs.lemmas.Nat.Bits.{ones_shr}
use Rattle.std.proofs.Math.Nat.{mod-lt}
use Rattle.rtk_bits.specs.Bits.{bits_of}
use Rattle.rtk_bits.proofs.PublicLaws.{bits_of-split, bits_of-mod}
use Rattle.rtk_message.specs.Fields.{u}
use Rattle.rtk_message.specs.Steps.FieldSteps.{TakesField}

-- the mask `u64::MAX >> (64 - width)`
pub low_bits : (n width : ℕ) → width ≤ 64 → bit_and n ((2 ^ 64 - 1) / 2 ^ (64 - width)) ≡ n % 2 ^ width
low_bits n width most =
    let k : 64 - (64 - width) ≡ width = omega arith in
    rw (ones_shr 64 (64 - width) (omega arith), k) (and_mask n width)

-- a field at the front of the bits that are left
pub word_field : (left width bits : ℕ) → width ≤ left → width ≤ 64
    → TakesField (u width (bit_and (bits / 2 ^ (left - width)) ((2 ^ 64 - 1) / 2 ^ (64 - width)))) (bits_of left bits) (bits_of (left - width) bits)
word_field left width bits enough most =
    let high = bits / 2 ^ (left - width) in
    let all : width + (left - width) ≡ left = omega arith in
    let parts : bits_of left bits ≡ bits_of width high ++ bits_of (left - width) bits =
    subst (λ (k : ℕ). bits_of k bits ≡ bits_of width high ++ bits_of (left - width) bits) all (bits_of-split width (left - width) bits) in
    rw (low_bits high width most) (record {
      fits = mod-lt high (pow_pos width);
      is = parts ∙ ap (λ (t : List Bool). t ++ bits_of (left - width) bits) (sym (bits_of-mod width high));
    })
