pub mod Mapping
pub mod Modes
pub mod Paths
pub mod Tracked
