pub mod Walks
pub mod Refusals
pub mod Turning
pub mod Steps
pub mod Closings
