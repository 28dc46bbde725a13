pub mod Destinations
pub mod KnownPorts
pub mod Picked
