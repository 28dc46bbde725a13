pub mod Mode
pub mod ModeLaws
pub mod Summing
