-- Definitions that only private clauses use.
pub mod Product
pub mod Remainder
pub mod Ring
pub mod Scanning
pub mod Tables
