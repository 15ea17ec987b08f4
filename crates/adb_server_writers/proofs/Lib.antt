mod Sides
mod Writings
