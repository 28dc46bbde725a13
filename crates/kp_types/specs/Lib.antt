pub mod Chains
pub mod Edits
pub mod Packets
pub mod Places
pub mod Ports
pub mod Rules
pub mod Setting
