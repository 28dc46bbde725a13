pub mod FlowText
pub mod TrackMode
