pub mod Fronts
pub mod Spellings
