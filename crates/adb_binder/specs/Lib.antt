pub mod Binder
pub mod Memory
pub mod OpenPorts
