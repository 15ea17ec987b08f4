pub mod Live
pub mod History
