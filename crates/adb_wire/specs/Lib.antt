pub mod Command
pub mod Header
pub mod Packet
pub mod Format
pub mod FormatLaws
pub mod Cutting
pub mod Slicing
pub mod Deframing
