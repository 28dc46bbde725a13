pub mod FamilyRanges
pub mod TextForms
