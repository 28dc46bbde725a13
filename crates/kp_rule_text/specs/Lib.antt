pub mod Lines
pub mod Reading
pub mod WordReading
pub mod WorkedLines
