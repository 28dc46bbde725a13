pub mod Changed
pub mod Counts
pub mod Endpoints
