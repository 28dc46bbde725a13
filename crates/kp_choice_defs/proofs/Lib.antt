pub mod ChainKeys
pub mod NameCharacters
pub mod Rounding
