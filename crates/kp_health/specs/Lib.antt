pub mod BothFamilies
pub mod Counted
pub mod Known
