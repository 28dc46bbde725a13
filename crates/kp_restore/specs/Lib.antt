pub mod Lines
pub mod Machine
pub mod Reading
pub mod Sections
pub mod Steps
