pub mod MapLaws
pub mod Remainder
pub mod VerdictMap
pub mod Worked
