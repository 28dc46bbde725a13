pub mod Collected
pub mod Counts
pub mod Families
pub mod Invariant
pub mod Known
pub mod Notes
pub mod Parts
pub mod Past
