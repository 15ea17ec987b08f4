pub mod Outputs
pub mod Counting
pub mod Accepting
pub mod Drains
pub mod Entries
pub mod Records
pub mod RecordEnds
pub mod Captures
