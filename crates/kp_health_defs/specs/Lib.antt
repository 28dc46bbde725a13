pub mod AcceptRules
pub mod HealthPorts
pub mod HealthText
