pub mod Beside
pub mod Decisions
pub mod Pointwise
pub mod Steps
pub mod United
pub mod Walks
