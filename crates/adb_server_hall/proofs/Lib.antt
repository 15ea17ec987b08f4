pub mod Drawn
pub mod Made
pub mod Marked
pub mod Some
pub mod Shut
