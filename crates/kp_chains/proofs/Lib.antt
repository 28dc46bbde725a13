pub mod ChoiceSteps
pub mod Counts
pub mod OtherEndpoints
pub mod Popped
pub mod PortRows
pub mod RowLemmas
