pub mod MapLists
pub mod Changes
pub mod Remembered
pub mod Events
pub mod SliceLists
