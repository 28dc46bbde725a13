pub mod Alike
pub mod Json
pub mod ScriptJson
