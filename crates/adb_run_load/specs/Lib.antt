pub mod Totals
pub mod Counted
pub mod Fronts
