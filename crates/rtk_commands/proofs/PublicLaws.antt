-- The laws of what readers give and writers hold (src/laws.rt) as lemmas, which proofs of other crates cite: each says what a
-- clause there says.

-- the clauses of `known_bytes_are_given` and of `known_bytes_are_held`: first, last
pub use Rattle.rtk_commands.proofs.PassedLemmas.{all_given, all_text, given_first, taken_first, taken_last}
