pub mod Apart
pub mod Counting
pub mod Fallen
pub mod Followed
pub mod Listed
pub mod Same
pub mod Standing
