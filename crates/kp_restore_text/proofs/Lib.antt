pub mod EditSections
pub mod Sections
pub mod Splits
pub mod Texts
