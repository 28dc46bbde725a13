pub mod Families
pub mod Laws
