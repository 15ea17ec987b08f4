pub mod Requests
pub mod Forms
pub mod Meaning
pub mod Rows
