pub mod BlockLaws
pub mod Joined
pub mod Worked
