pub mod Making
mod Ending
pub mod Telling
mod Failing
mod Naming
pub mod Taking
mod UsingOf
mod Handouts
mod WritesUp
mod Sending
mod GoingUp
mod Sweeping
mod RisingIds
mod EachUp
pub mod StillUp
pub mod Rests
