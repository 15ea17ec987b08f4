pub mod Answers
pub mod Lines
pub mod Meanings
pub mod Output
pub mod Pattern
pub mod Script
pub mod Told
