pub mod Clears
pub mod Connections
pub mod Dead
pub mod FirstChanged
pub mod Live
pub mod Liveness
pub mod OfLive
pub mod Parts
