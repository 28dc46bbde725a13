pub mod Counting
pub mod Heads
pub mod KnownAnswers
pub mod Numbers
