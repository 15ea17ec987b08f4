pub mod Plugged
pub mod Cutting
pub mod Naming
pub mod Counting
pub mod Reserving
pub mod Settling
pub mod Whole
