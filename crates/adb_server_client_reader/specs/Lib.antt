pub mod Forwards
pub mod Reading
pub mod Admitting
pub mod Closing
