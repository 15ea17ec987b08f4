pub mod Packets
mod Filling
mod Sending
mod Sums
