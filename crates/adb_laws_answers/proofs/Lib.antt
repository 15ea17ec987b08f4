mod Known
mod Reading
mod Leading
mod Histories
mod Staying
mod Falling
mod PutAll
pub mod Asked
pub mod Ends
mod Answered
