pub mod Sending
pub mod Conversing
