pub mod OneDesk
