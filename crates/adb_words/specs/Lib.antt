pub mod Apps
pub mod Found
pub mod Given
pub mod Serve
pub mod Tools
pub mod Words
