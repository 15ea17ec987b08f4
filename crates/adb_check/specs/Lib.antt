pub mod Rules
pub mod FirstBad
pub mod Judging
pub mod Formed
pub mod Capture
