pub mod ListPlaces
pub mod Ways
