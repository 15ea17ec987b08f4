mod Live
pub mod Record
