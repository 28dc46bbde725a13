pub mod Drawn
pub mod Lines
pub mod Members
pub mod Tokens
pub mod Refusals
