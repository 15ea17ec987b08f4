pub mod Device
pub mod Door
pub mod Either
pub mod Memory
