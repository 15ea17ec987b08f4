pub mod Yard
