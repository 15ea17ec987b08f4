pub mod Outgoing
pub mod Outbox
pub mod Linked
