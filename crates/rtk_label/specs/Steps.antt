pub mod Shown
pub mod Fronts
pub mod Told
