pub mod Clashes
pub mod NameBytes
pub mod Quanta
pub mod SameKeys
pub mod TextsApart
