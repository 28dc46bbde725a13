pub mod Places
pub mod Prefix
pub mod Quantum
pub mod WorkedAddresses
pub mod Written
