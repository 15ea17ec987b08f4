pub mod Pass
pub mod Log
pub mod Marked
pub mod Entries
