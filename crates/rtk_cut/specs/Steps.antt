pub mod FileTexts
pub mod PartFile
pub mod PartRecords
pub mod Pending
pub mod GpsFile
pub mod MixedFile
pub mod Noted
