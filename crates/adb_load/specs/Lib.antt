pub mod Acts
pub mod Patterns
pub mod Streams
pub mod Course
pub mod Load
