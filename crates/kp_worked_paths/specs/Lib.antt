pub mod Setting
pub mod Texts
