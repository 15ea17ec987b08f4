pub mod MadeLines
pub mod HowFar
pub mod WrittenOut
pub mod Said
