pub mod Handed
pub mod NextDue
