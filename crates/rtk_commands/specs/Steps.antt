-- Definitions that only private clauses use.
pub mod ReadLimits
pub mod Interrupts
