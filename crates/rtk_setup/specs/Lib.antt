pub mod Setup
pub mod Rates
pub mod SetupFault
pub mod Counts
