pub mod FramingLaws
pub mod Framers
pub mod FurtherLaws
pub mod TableLaws
pub mod ByteLaws
pub mod CutLaws
pub mod Numbers
pub mod Joined
