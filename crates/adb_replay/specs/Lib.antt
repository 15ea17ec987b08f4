pub mod Stop
pub mod Kills
pub mod Replay
pub mod Keeping
pub mod Replayed
