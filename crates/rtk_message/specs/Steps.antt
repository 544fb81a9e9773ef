-- Definitions that only private clauses use.
pub mod AfterNumber
pub mod FieldSteps
pub mod EachFits
pub mod AfterAnyNumber
pub mod MsmColumns
