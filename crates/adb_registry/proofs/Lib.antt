pub mod Sound
pub mod Meant
pub mod Lengths
