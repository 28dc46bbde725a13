pub mod DirtyLaws
pub mod EventLaws
pub mod HistoryLaws
pub mod KeptLaws
pub mod PortLaws
pub mod RunLaws
