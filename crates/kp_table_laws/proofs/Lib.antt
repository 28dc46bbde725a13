pub mod ChangedPorts
mod Deeper
pub mod Entries
pub mod Families
pub mod FamilyClash
mod Found
pub mod KeyRows
pub mod NeededKeys
pub mod NoClash
pub mod PortOrder
pub mod PortRows
pub mod Traversed
