pub mod Trees
pub mod Worlds
pub mod Pushing
pub mod Pulling
pub mod Waiting
pub mod Pulled
