-- Definitions that only private clauses use.
pub mod PhaseMarks
pub mod SetupParts
