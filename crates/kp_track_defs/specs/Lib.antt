pub mod Entries
pub mod Kept
pub mod Stands
pub mod Steps
pub mod Tracking
pub mod TrackLaws
pub mod Worked
