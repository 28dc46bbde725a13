pub mod ScriptAnswers
