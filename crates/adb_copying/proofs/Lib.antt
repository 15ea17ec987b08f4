pub mod Copies
mod Shows
mod Lines
mod Room
