-- The laws of src/laws.rt as lemmas, which proofs of other crates cite: each says what a clause
-- there says.

-- the clause of `files_are_tables`
pub use Rattle.rtk_rinex.proofs.TableLemmas.{file-is_shown}
-- the clause of `mixed_files_are_tables`
pub use Rattle.rtk_rinex.proofs.MixedFileLemmas.{mixed_file-is_shown}
