pub mod LabelIndex
pub mod NodeNames
pub mod PodNames
pub mod PortNumbers
pub mod Steps
pub mod WithPorts
