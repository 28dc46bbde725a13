pub mod HeldSteps
pub mod OwnTables
pub mod ReadyMatches
pub mod SetSteps
pub mod SkippedSets
pub mod Steps
pub mod TriedRules
