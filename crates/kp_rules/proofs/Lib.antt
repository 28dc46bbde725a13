pub mod ChangeLists
pub mod ChangesLead
mod KeyedPlaces
pub mod MapPlaces
mod NextPlaces
pub mod OtherFamily
mod OtherPlaces
mod PlacesFound
mod Placing
mod RankedPlaces
mod RankedWalk
mod SameValues
pub mod Skipping
