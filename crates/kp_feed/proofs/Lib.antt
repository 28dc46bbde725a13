pub mod Events
pub mod Newcomers
pub mod Rules
