mod Taking
mod Readings
mod Cutting
mod AllNamed
mod Kept
pub mod Shadows
