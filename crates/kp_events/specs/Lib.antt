pub mod Answers
pub mod JournalContents
