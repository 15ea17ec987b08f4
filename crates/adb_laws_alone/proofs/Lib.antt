pub mod ConsecutivePayloads
pub mod Quiet
mod Watching
mod Alone
pub mod Through
mod Together
mod Rows
mod Asked
pub mod InPart
