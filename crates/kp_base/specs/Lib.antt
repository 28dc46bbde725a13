pub mod Dotted
pub mod Grammar
pub mod Keys
pub mod Net
pub mod Six
pub mod Words
