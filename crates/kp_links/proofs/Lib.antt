pub mod Followed
pub mod Kit
pub mod Moved
pub mod Reached
pub mod Ringed
