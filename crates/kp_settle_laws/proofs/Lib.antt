pub mod Enough
pub mod Events
pub mod Found
pub mod Managed
pub mod OwnValues
pub mod Settling
