-- Definitions that only private clauses use.
pub mod Digits
pub mod HeaderShown
pub mod HeaderRead
pub mod CheckValues
pub mod WrittenLines
pub mod ReadRecords
pub mod MixedRoom
pub mod MixedHeaderRead
pub mod MixedReadRecords
