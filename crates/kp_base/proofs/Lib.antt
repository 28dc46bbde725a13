pub mod Decimals
pub mod Groups
pub mod KeyOrder
pub mod Maps
pub mod Pieces
pub mod Printed
pub mod SameParts
