-- The facts of the public laws, which proofs of other crates cite
pub mod PublicLaws
-- Laws on the definitions, and what this crate's functions compute
mod ColumnLemmas
mod DecodedLemmas
mod EqualLemmas
mod FieldLemmas
mod Msm1074Lemmas
mod MsmLemmas
mod AnyDecodedLemmas
mod NumberLemmas
mod Obs1004Lemmas
mod Obs1012Lemmas
mod SystemsLemmas
mod WordLemmas
