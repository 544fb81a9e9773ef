-- The facts of the public laws, which proofs of other crates cite
pub mod PublicLaws
mod Blocks
mod ByteTable
mod Division
mod FinalLaw
mod FirstFrame
mod FoundPlace
mod FramesLaw
mod Framed
mod Fronts
mod NextFrame
mod Parts
mod Passing
mod Pieces
mod PrefixLemmas
mod Remainder
mod StreamLemmas
