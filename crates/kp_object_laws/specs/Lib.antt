pub mod ObjectLaws
pub mod ListLaws
pub mod PortLaws
pub mod SliceLaws
