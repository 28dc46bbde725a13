pub mod Between
pub mod Family
pub mod Here
pub mod Kept
pub mod KeptNames
pub mod Merged
pub mod Places
pub mod Replaced
