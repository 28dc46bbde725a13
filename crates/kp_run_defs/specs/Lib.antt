pub mod AnswerText
pub mod CountedRuns
pub mod GenText
pub mod LegalRuns
pub mod LiveLines
pub mod LiveText
pub mod ReplayText
pub mod WorkedLive
