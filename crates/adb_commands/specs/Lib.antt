pub mod Words
pub mod Loads
pub mod Check
pub mod ScriptStop
pub mod ScriptInput
pub mod Scripts
pub mod Ends
pub mod AnswerLines
