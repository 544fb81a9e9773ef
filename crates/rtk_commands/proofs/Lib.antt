-- The facts of the laws of streams, which proofs of other crates cite
pub mod PublicLaws
mod AfterFrontLemmas
mod CheckLineLemmas
mod CompareLemmas
mod DueLemmas
mod FileLemmas
mod FileTableLemmas
mod GpsTableLemmas
mod KeptPartLemmas
mod KindLemmas
mod LabelLemmas
mod LabelledPartLemmas
mod LawLemmas
mod MemoryLemmas
mod PassedLemmas
mod RenderedLemmas
mod ResultLemmas
mod ShowThroughLemmas
mod ShownLemmas
mod ThroughLemmas
mod VerdictLemmas
mod WithLabelLemmas
mod WrittenLemmas
