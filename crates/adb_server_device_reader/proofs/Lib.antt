pub mod Handing
pub mod Marks
pub mod Readings
mod Fronts
