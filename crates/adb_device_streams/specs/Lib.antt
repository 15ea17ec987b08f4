pub mod Asked
pub mod Service
pub mod Stream
pub mod Link
pub mod Due
