pub mod Feeding
pub mod Passes
pub mod Taking
pub mod Calls
