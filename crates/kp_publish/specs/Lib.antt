pub mod Entries
pub mod Faults
pub mod Knows
pub mod Pending
pub mod Steps
