pub mod Messages
pub mod Asks
pub mod Answers
pub mod Framed
pub mod Chunk
