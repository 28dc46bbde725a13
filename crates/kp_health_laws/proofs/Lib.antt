pub mod AcceptWalks
pub mod FullTables
pub mod Jumps
pub mod Trails
pub mod Untouched
