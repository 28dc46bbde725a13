pub mod Choice
pub mod Decision
pub mod Doors
pub mod Filter
pub mod Marks
