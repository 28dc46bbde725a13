pub mod Enough
pub mod Findings
pub mod Listed
pub mod Looked
pub mod Picks
pub mod Shown
pub mod Stored
pub mod Told
