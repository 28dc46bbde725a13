pub mod Affected
pub mod DirtyPorts
pub mod History
pub mod Inputs
pub mod KeptRules
pub mod Runs
