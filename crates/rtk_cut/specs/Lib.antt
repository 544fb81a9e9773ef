pub mod Cut
pub mod KeptSystems
pub mod KeptLaws
pub mod CutLaws
pub mod CutWriting
pub mod Extent
pub mod Steps
