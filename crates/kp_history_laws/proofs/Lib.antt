mod Affected
mod Changed
pub mod DirtyPorts
mod EveryRun
pub mod Histories
mod Kept
mod Ports
pub mod Records
mod Steps
mod Synced
mod Tables
mod Values
