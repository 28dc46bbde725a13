pub mod Bounds
pub mod BoundLaws
pub mod TableLaws
pub mod ShownLaws
