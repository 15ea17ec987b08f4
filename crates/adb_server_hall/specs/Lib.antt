pub mod Telling
pub mod Passes
pub mod Made
