pub mod Words
pub mod Model
pub mod Asked
pub mod Sessions
pub mod Gone
pub mod Answers
