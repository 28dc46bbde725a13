pub mod AllLines
pub mod Doors
pub mod Kept
pub mod Pieces
pub mod PortLines
pub mod SameCrowd
pub mod Shown
