pub mod Addresses
pub mod Counting
pub mod Families
pub mod Filtered
