pub mod Payloads
pub mod Alone
pub mod Calls
pub mod Together
