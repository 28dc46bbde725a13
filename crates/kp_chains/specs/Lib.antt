pub mod Blocks
pub mod Fixed
pub mod Named
pub mod Ports
pub mod Rows
pub mod Tables
