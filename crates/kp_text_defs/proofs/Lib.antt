pub mod Between
pub mod LinesMade
