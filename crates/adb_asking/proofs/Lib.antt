mod Answered
pub mod Calls
pub mod Fits
mod Inputs
mod Parts
mod Putting
