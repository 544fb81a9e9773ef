-- The facts that proofs of other crates cite
pub mod PublicLaws
mod AbsenceLemmas
mod BitLemmas
mod StepLemmas
mod RecordLemmas
mod ObservationLemmas
mod SystemCodeLemmas
