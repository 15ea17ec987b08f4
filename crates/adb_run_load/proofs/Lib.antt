pub mod Sums
pub mod Drawn
pub mod PastLeads
pub mod Taking
pub mod SentUp
pub mod Adding
pub mod Loads
