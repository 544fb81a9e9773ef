pub mod Fields
pub mod TimeLines
pub mod Filling
pub mod Labelled
pub mod LabelFault
pub mod LabelLaws
pub mod LabelWriting
pub mod Steps
