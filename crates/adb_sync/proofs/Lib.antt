pub mod Commas
pub mod Messages
pub mod AskCuts
pub mod AnswerCuts
pub mod Handing
