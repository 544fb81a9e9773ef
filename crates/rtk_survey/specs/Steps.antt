-- Definitions that only private clauses use.
pub mod Fields
pub mod Looking
pub mod OtherSystems
pub mod Tables
