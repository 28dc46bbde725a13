pub mod AnswerLemmas
pub mod BesideLemmas
pub mod OwnLemmas
pub mod TextLemmas
pub mod WalkLemmas
pub mod WorkerLemmas
