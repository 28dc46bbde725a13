pub mod Apart
pub mod Clashes
pub mod FamilySteps
pub mod KeySteps
pub mod Ordered
pub mod PartSteps
