pub mod Fields
pub mod Metadata
pub mod Reads
pub mod Rows
