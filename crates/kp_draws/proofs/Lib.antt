pub mod FirstMatch
pub mod Selection
pub mod Thresholds
