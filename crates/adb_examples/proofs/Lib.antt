pub mod Echoing
pub mod Serving
