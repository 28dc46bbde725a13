pub mod AddressText
pub mod Draws
pub mod Names
pub mod Recent
pub mod Settings
