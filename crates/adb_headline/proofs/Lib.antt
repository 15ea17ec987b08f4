pub mod Fifo
pub mod Written
pub mod Handed
