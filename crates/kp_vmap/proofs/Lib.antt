mod Answered
pub mod DirtyPorts
pub mod FoundInputs
pub mod Keeping
pub mod LeftPorts
pub mod MergedPorts
pub mod NoObjects
pub mod PortDoors
pub mod PortNames
pub mod PortsFound
pub mod PortsHere
pub mod PortsInOrder
pub mod Replacing
pub mod SortedPorts
pub mod Staging
