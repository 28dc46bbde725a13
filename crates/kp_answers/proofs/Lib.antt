mod AnswerLemmas
mod DrawLemmas
mod TrailLemmas
