pub mod Following
pub mod AllMoves
pub mod StreamMoves
pub mod PacketMoves
pub mod Readiness
pub mod ReadMoves
pub mod RuleMoves
pub mod PlainMoves
pub mod Numbers
pub mod Births
pub mod Owning
pub mod OwnedMoves
pub mod OwnedRules
pub mod OwnedStep
pub mod Writes
pub mod Sweep
pub mod Quiet
pub mod Linking
pub mod LinkMoves
pub mod Unread
pub mod OrderlyStates
pub mod Calm
mod HandOuts
mod Drains
mod Settled
mod WorkedClients
mod WorkedStreams
mod WorkedWords
mod WorkedCaptures
pub mod Refuted
pub mod RefutedCauses
pub mod RefutedAnswers
pub mod Growing
pub mod GrowingRules
pub mod GrowingPackets
pub mod Changes
pub mod LinkChanges
pub mod AnswersWithin
pub mod ReadChanges
pub mod Outputs
pub mod OutputEntries
pub mod Received
pub mod DeviceRows
pub mod DeviceTurns
pub mod TableStays
pub mod Devices
pub mod Waiting
pub mod Asked
pub mod OwnEntries
pub mod ForwardTurns
pub mod Booked
pub mod BookReads
pub mod BookTurns
pub mod BookEntries
pub mod BookClients
pub mod BookRead
pub mod Books
pub mod Pieces
