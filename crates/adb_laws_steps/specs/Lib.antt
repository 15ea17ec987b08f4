pub mod Sums
pub mod Tolls
pub mod Owed
pub mod Receives
pub mod Moved
pub mod Steps
