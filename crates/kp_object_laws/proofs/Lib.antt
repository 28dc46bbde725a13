pub mod Lists
pub mod OwnEntries
pub mod OwnKeys
pub mod PortByKey
pub mod SameElements
mod SlicesNow
pub mod Usable
pub mod Wanted
pub mod NamedPods
pub mod FirstPlaces
pub mod OneFamily
pub mod FamilyEntries
pub mod KeptNames
