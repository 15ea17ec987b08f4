pub mod Lines
pub mod NamedTree
pub mod Shown
pub mod Trees
