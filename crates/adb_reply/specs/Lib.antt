pub mod Strings
pub mod Refusals
pub mod Chosen
pub mod Answer
pub mod Laws
