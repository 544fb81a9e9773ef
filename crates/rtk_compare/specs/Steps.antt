-- Definitions that only private clauses use.
pub mod Tracks
pub mod SharedCodes
pub mod Sides
pub mod Readers
pub mod Rows
pub mod Records
