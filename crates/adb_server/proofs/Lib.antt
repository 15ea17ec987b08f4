pub mod Announcing
pub mod Closing
pub mod Keeping
pub mod Rising
