pub mod Streams
pub mod WholeInput
