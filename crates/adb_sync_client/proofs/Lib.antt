mod Completing
mod FirstBad
mod Lasting
mod Modes
mod Openings
mod Readings
mod Strays
mod Written
