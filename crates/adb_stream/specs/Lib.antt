pub mod Window
pub mod Credit
pub mod Held
pub mod Flow
pub mod Stream
pub mod Streams
pub mod Shelf
pub mod Lending
