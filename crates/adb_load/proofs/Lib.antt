pub mod Aheads
pub mod Cycles
pub mod Records
pub mod Turns
