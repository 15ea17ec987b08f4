pub mod Totals
pub mod Taken
