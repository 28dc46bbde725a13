pub mod Clashes
pub mod Destinations
pub mod Draws
pub mod Faults
pub mod Inputs
pub mod Printed
pub mod Readings
pub mod Runs
