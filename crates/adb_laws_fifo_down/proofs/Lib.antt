mod Shown
mod Others
mod OtherPackets
mod OtherLinks
mod Own
mod OwnPackets
mod Ups
mod OwnTurns
mod OwnHands
mod OtherTurns
mod Rules
mod Openings
mod Lives
mod LifeFresh
mod LifePackets
mod Brought
mod Entries
mod Steps
pub mod BornNow
mod Begun
mod Askers
mod Asking
mod BirthEntries
mod Unborn
pub mod Followed
pub mod Handed
mod Backed
mod OpenTurns
mod Windows
mod WindowTurns
mod WindowPackets
pub mod Acknowledged
