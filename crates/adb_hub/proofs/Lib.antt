pub mod Standing
pub mod Steps
pub mod Fresh
pub mod Counts
mod Completed
mod Reported
mod Endless
