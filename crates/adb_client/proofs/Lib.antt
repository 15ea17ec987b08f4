pub mod Seams
pub mod Ends
pub mod Weaving
pub mod Filling
pub mod Pieces
