mod Gathering
mod Modes
mod Pieces
mod Talks
mod Writes
