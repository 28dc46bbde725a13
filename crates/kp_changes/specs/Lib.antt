pub mod After
pub mod Bare
pub mod Beside
pub mod Counted
pub mod Lines
pub mod Neighbours
pub mod Stored
