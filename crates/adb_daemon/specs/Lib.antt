pub mod Serving
pub mod Device
pub mod Held
pub mod Behind
pub mod Daemon
pub mod Link
pub mod Streams
pub mod Allowed
