pub mod Chains
pub mod Laws
pub mod WorkedLines
pub mod WorkedMoves
pub mod WorkedPorts
