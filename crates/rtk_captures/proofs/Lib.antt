mod DateLawLemmas
mod WalkLemmas
