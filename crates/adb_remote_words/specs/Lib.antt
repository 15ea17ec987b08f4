pub mod Words
pub mod Held
pub mod Meaning
pub mod Outcome
pub mod Reading
