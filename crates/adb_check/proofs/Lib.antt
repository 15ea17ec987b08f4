pub mod Breaking
pub mod HandedOut
pub mod Places
pub mod Captured
