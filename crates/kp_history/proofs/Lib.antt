mod Start
pub mod Synced
