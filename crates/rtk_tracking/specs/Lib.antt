pub mod Epochs
pub mod Extremes
pub mod Interval
pub mod Laws
pub mod Passes
pub mod Standing
pub mod SystemCodes
