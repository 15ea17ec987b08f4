pub mod Ends
pub mod Input
pub mod Lines
pub mod Writing
pub mod Telling
pub mod Asking
pub mod Jobs
pub mod Calling
