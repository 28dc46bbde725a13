pub mod Held
pub mod Hinted
pub mod Marked
pub mod Moments
pub mod Shelves
pub mod Tails
