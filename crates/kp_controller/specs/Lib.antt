pub mod Clashing
pub mod Near
pub mod Replaced
pub mod Settling
pub mod Stored
