pub mod Handing
pub mod Reading
pub mod Plugging
pub mod Packets
