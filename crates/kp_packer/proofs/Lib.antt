pub mod Grouping
pub mod Naming
pub mod Ordering
pub mod Places
pub mod Placing
pub mod Whole
pub mod PortOrder
