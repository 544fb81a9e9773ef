-- Definitions that only private clauses use.
pub mod LegacyFields
pub mod GlonassFields
pub mod MsmRows
pub mod SignalRows
pub mod Marks
pub mod RollLimits
