-- The facts of the public laws, which proofs of other crates cite
pub mod PublicLaws
-- Laws on the definitions, and what this crate's functions compute
mod CellsLemmas
mod KindLemmas
mod LegacyListLemmas
mod FewLemmas
mod ArrivalsLemmas
mod JoinsLemmas
mod OpeningLemmas
mod OffersLemmas
mod StationLemmas
mod WindowLemmas
mod LeftLemmas
mod LateLemmas
mod MembersLemmas
mod SetsLemmas
mod EqualityLemmas
mod RisingLemmas
mod MergesLemmas
mod PreferredLemmas
mod UnderLemmas
mod FirstLemmas
mod NextWindowLemmas
mod DatedLemmas
mod PositionLemmas
mod SignalLemmas
mod MsmOrderLemmas
mod SignalGpsLemmas
