pub mod AllOf
pub mod InOrder
pub mod SameObjects
