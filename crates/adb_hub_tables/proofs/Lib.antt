mod Marking
mod MarkedRows
mod FirstMark
mod TouchedRows
mod Grouping
mod Seeing
pub mod Rows
mod Owing
pub mod StreamRows
pub mod Staying
pub mod Using
mod Trackers
pub mod Closings
pub mod PutRows
pub mod Widening
pub mod Reporting
