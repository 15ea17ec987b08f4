mod Bodies
mod Gathering
mod Lasting
mod Openings
mod Readings
