pub mod ByName
pub mod Labels
pub mod Numbers
