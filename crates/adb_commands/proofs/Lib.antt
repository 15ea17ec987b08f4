pub mod Checks
pub mod Loads
pub mod ScriptReading
pub mod ScriptFronts
pub mod Scripts
pub mod Words
pub mod AnswerLines
