pub mod FirstPlaces
pub mod Tests
