pub mod Buckets
pub mod KeptCode
pub mod Laid
pub mod Marked
pub mod Standing
