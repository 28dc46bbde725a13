mod Few
mod Known
pub mod Untouched
mod WorkedTouched
pub mod Zones
