pub mod Counted
pub mod KnownPorts
pub mod StoredServices
pub mod TakingPart
