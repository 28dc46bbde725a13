pub mod Apart
pub mod Counting
pub mod LastTables
pub mod PodRuns
pub mod StreamPlaces
