pub mod Standing
pub mod Exchanges
pub mod Alone
pub mod Echoes
pub mod Lines
pub mod InPart
