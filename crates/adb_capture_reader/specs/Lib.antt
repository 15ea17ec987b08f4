pub mod Reading
pub mod Forms
pub mod Counting
pub mod Awaiting
