pub mod AllAnswers
pub mod Beginnings
pub mod Openings
pub mod Readiness
pub mod Shortness
