pub mod Few
pub mod Invariant
pub mod Parts
