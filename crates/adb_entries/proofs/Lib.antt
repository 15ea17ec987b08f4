pub mod Attaching
pub mod HandOuts
pub mod Fewer
pub mod Adding
mod Endless
