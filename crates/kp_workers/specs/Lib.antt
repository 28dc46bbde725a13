pub mod Texts
pub mod Walks
pub mod Workers
