-- The laws of src/laws.rt as lemmas, which proofs of other crates cite: each says what a clause
-- there says.

-- the clauses of `bits_of_a_number`: length, above, rest, split
pub use Rattle.rtk_bits.proofs.BitsLemmas.{length-bits_of, bits_of-above, bits_of-mod, bits_of-split}
-- the clauses of `number_of_bits`: bound, of_number, joined
pub use Rattle.rtk_bits.proofs.Numbers.{unsigned_lt, unsigned-bits_of, unsigned-append}
-- The sign of a number of bits, which two shifts spread, and the bits of a signed number.
pub use Rattle.rtk_bits.proofs.ReaderLemmas.{signed_of_unsigned}
pub use Rattle.rtk_bits.proofs.Signed.{signed_fits, signed_bits_of-signed}
