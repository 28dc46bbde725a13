pub mod Tracked
pub mod Worked
