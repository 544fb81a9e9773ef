-- Definitions that only private clauses use.
pub mod Borrowed
pub mod OrderedPlaces
pub mod Slot
pub mod Observed
pub mod Room
pub mod First
