pub mod Places
pub mod Changes
pub mod Writes
pub mod Lent
