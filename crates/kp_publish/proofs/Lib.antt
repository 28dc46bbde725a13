pub mod Asked
pub mod Beginnings
pub mod Fitting
pub mod Readers
pub mod Tables
pub mod Writing
