-- The facts of the public laws, which proofs of other crates cite
pub mod PublicLaws
-- Laws on the definitions, and what this crate's functions compute
mod YearLemmas
mod ReadingLemmas
mod CodeLemmas
mod EqualityLemmas
mod RoundingLemmas
mod LockLemmas
mod SignalLemmas
mod CodedSignalLemmas
mod RolloverLemmas
mod TracksLemmas
mod ScalingLemmas
mod MaskLemmas
mod LegacyLemmas
mod CellsLeftLemmas
mod MsmLemmas
mod MsmFieldLemmas
mod PairsLemmas
mod DistinctLemmas
mod MessageLemmas
mod SatelliteLemmas
mod AnyCodeLemmas
mod SignalCellLemmas
mod OwnCodeLemmas
mod DistinctEntryLemmas
mod SeenLemmas
mod GlonassLemmas
mod GlonassEntryLemmas
mod NormalFieldLemmas
mod SbasLemmas
mod SignalEntryLemmas
mod DopplerLemmas
mod LeapLemmas
mod ClockLemmas
