pub mod Sound
pub mod Refusal
pub mod Answers
pub mod Endings
pub mod Completing
