pub mod Syncing
pub mod Taking
pub mod Windows
pub mod Growing
