pub mod Faults
pub mod Told
pub mod Stands
pub mod Streams
pub mod Runs
pub mod Written
pub mod Handed
