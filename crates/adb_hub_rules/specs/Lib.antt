pub mod Came
pub mod Handing
pub mod Up
pub mod Sweep
