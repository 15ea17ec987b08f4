pub mod Asking
pub mod Expected
pub mod Framed
pub mod Reading
pub mod Texts
pub mod Values
