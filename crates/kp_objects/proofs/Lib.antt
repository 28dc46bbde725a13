pub mod Families
pub mod Inside
pub mod NoneText
pub mod PortSteps
pub mod SeenOrder
pub mod ServiceMade
pub mod SliceMade
