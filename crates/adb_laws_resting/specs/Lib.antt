pub mod Named
pub mod Resting
pub mod Wanted
