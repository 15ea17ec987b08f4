mod Chunks
mod FirstBad
mod Pieces
mod Printed
mod Printing
mod Ran
mod Shown
mod Stored
mod Worked
pub mod Cutting
pub mod Listed
pub mod Patterns
pub mod Requests
