pub mod Packets
pub mod Framed
