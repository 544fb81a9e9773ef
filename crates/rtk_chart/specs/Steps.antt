-- Definitions that only private clauses use.
pub mod Added
pub mod Pictures
pub mod Shown
pub mod Standing
pub mod SvgParts
