pub mod Asides
pub mod Chances
pub mod Paths
pub mod PathText
pub mod Sources
