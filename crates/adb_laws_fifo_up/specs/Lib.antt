pub mod Seen
pub mod Climbing
pub mod Rising
pub mod Carrying
